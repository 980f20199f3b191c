use Rattle.std.proofs.Common.{sym, subst}
use Rattle.sp_load.specs.declared.refusal.Refusal.{Refusal}
use Rattle.sp_load.specs.Seconds.{timed, RefusesSecond}
use Rattle.sp_load.proofs.OneSecondLaws.{as_second}
use Rattle.sp_load.proofs.second.second_plan.Goals as goal

pub returns-in-Err-clause-refused : goal.returns-in-Err-clause-refused
returns-in-Err-clause-refused c = as_second c.args.text.now c.in-Err.refusal c.in-Err.ensures.refused

pub returns-in-Err-plan_of-clause-refused : goal.returns-in-Err-plan_of-clause-refused
returns-in-Err-plan_of-clause-refused c =
    as_second c.args.text.now c.in-Err-plan_of.refusal (c.in-Err-plan_of.ensures.refused c.args.text.now c.utf8.text c.in-Ok.ensures.query)

pub returns-in-None-clause-plan : goal.returns-in-None-clause-plan
returns-in-None-clause-plan c = record {
  plan = record { utf8 = c.utf8.text; query = c.in-Ok.query; is_query = c.in-Ok.ensures.query; is_plan = c.in-Ok-plan_of.ensures.plan };
  timeless = c.in-None.is;
}

pub returns-clause-refused : goal.returns-clause-refused
returns-clause-refused c =
    subst (λ (r : Refusal). RefusesSecond c.args.text.now r) (sym c.timed.ensures)
    (timed c.in-Ok-plan_of.plan c.in-Ok.query c.in-Some.name c.utf8.text c.in-Ok.ensures.query c.in-Ok-plan_of.ensures.plan c.in-Some.is)
