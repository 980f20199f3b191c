use Rattle.std.proofs.Common.{◌∙◌, ap, refl}
use Rattle.std.specs.Arc.{arc_value}
use Rattle.sp_core.specs.Running.{Running}
use Rattle.sp_lists.specs.Untold.{untold}
use Rattle.sp_cli.specs.Commands.{speed_seen}
use Rattle.sp_top.proofs.GoneOver.{went_over}
use Rattle.sp_top.proofs.listing.drive_events.Goals as goal

pub returns : goal.returns
returns g c =
    went_over c.in_ok-core.core c.new-intake.result c.drive.new.intake (untold c.new-outlet.result) (untold c.drive.new.outlet) c.in_ok-ended.ended c.in_ok-ended.ensures.ended
    (arc_value c.args.plan.now) (arc_value c.in_ok-plan_in.plan_in) c.args.events.items c.args.stop (ap (λ (r : Running). r.plan) c.in_ok-core.ensures ∙ c.in_ok-clone.ensures.cases) c.new-intake.ensures
    c.steps_lead_to.ensures.reached.sequential c.steps_lead_to.ensures.replays (speed_seen c.args.speed.now) (ap (λ (r : Running). r.bound) c.in_ok-core.ensures)
    c.in_ok-ended.ensures.about c.in_ok-ended.ensures.asked c.in_default.not-Memory refl refl
