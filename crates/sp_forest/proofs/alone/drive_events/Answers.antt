use Rattle.std.proofs.Common.{◌∙◌, refl, ap}
use Rattle.std.specs.Arc.{arc_value}
use Rattle.sp_core.specs.Running.{Running}
use Rattle.sp_lists.specs.Untold.{untold}
use Rattle.sp_forest.proofs.OneCore.{gone_over, first_same, if_ok_weaker}
use Rattle.sp_forest.proofs.alone.drive_events.Goals as goal

pub returns-clause-gone : goal.returns-clause-gone
returns-clause-gone g c =
    if_ok_weaker c.drive-ended.result _ _ c.drive-ended.ensures.ended
    (λ end drove. gone_over c.in_ok-core.core end.core c.new-intake.result c.drive-ended.new.intake (untold c.new-outlet.result) (untold c.drive-ended.new.outlet) end.why drove
    (arc_value c.args.plan.now) (arc_value c.in_ok-plan_in.plan_in) c.args.events.items c.args.stop
    (ap (λ (r : Running). r.plan) c.in_ok-core.ensures ∙ c.in_ok-clone.ensures.cases) c.new-intake.ensures refl refl)

pub returns-clause-name : goal.returns-clause-name
returns-clause-name g c =
    if_ok_weaker c.drive-ended.result _ _ c.drive-ended.ensures.crew (λ end crew through. first_same crew.gone _ _ _ _ (crew.count through) crew.names)
