use Rattle.std.specs.Arc.{arc_value}
use Rattle.sp_load.specs.Places.{text_of}
use Rattle.sp_top.proofs.OwnPlans.{all_run_as}
use Rattle.sp_top.proofs.plans.plans_of.Goals as goal

pub returns-clause-alike : goal.returns-clause-alike
returns-clause-alike c =
    all_run_as c.one_reading.ensures c.plans_match_alike.ensures (text_of c.args.text.now) (arc_value c.in_ok-plan.plan) c.in_ok-plan.ensures.plan arc_value c.in_ok-own.own.items c.in_ok-own.ensures.plans
