use Rattle.std.proofs.Common.{◌≡◌}
use Rattle.sp_split.specs.Going.{IsGoing}
use Rattle.sp_split.specs.Relieving.{AreDue, Relieved}
use Rattle.sp_split.specs.Stages.{IsAlone}
use Rattle.sp_split.proofs.alone.run_alone.Given as goal

abbrev pub invariant-loop : goal.invariant-loop
invariant-loop g l = record {
  going : IsGoing g.I.Intake.gave g.I.Intake.asked g.I.Intake.ended g.I.Intake.stops g.I.Intake.cause l.initial.intake l.intake l.initial.lone.core l.lone.core (g.O.Outlet.state l.initial.outlet) (g.O.Outlet.state l.outlet) l.fed;
  ready : IsAlone l.lone.core × AreDue l.lone.team.relay l.lone.core.machine.finished;
  relieved : Relieved (λ one. (goal.Predictor-dyn g (one.vtable, one.value)).named one.value) l.initial.lone.team l.lone.team;
  plan : g.I.Intake.plan l.intake ≡ g.I.Intake.plan l.initial.intake;
  token : g.I.Intake.token l.intake ≡ g.I.Intake.token l.initial.intake;
  out_plan : g.O.Outlet.plan l.outlet ≡ g.O.Outlet.plan l.initial.outlet;
  out_token : g.O.Outlet.token l.outlet ≡ g.O.Outlet.token l.initial.outlet;
}
