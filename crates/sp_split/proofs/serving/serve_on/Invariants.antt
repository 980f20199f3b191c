use Rattle.std.proofs.Common.{◌≡◌}
use Rattle.sp_core.specs.Running.{Running}
use Rattle.sp_ports.specs.Taking.{OutletState}
use Rattle.sp_split.specs.Going.{IsGoing}
use Rattle.sp_split.specs.Relieving.{AreDue, Relieved}
use Rattle.sp_split.specs.Serving.{IsServing}
use Rattle.sp_split.proofs.serving.serve_on.Given as goal

abbrev pub invariant-loop : goal.invariant-loop
invariant-loop g l = record {
  going : (from : _) (first : Running) (old : OutletState)
      → IsGoing g.I.Intake.gave g.I.Intake.asked g.I.Intake.ended g.I.Intake.stops g.I.Intake.cause from l.initial.intake first l.initial.serving.desk.splitter.core old (g.O.Outlet.state l.initial.outlet) l.initial.serving.fed
      → IsGoing g.I.Intake.gave g.I.Intake.asked g.I.Intake.ended g.I.Intake.stops g.I.Intake.cause from l.intake first l.serving.desk.splitter.core old (g.O.Outlet.state l.outlet) l.serving.fed;
  ready : IsServing l.serving.desk.splitter.instances l.serving.desk.splitter.batch l.serving.desk.splitter.kept.items l.serving.desk.splitter.core l.serving.desk.by l.serving.desk.seat
      × AreDue l.serving.relay l.serving.desk.splitter.core.machine.finished;
  relieved : Relieved (λ one. (goal.Predictor-dyn g (one.vtable, one.value)).named one.value) (record { first = l.initial.serving.desk.splitter.predictor; relay = l.initial.serving.relay })
      (record { first = l.serving.desk.splitter.predictor; relay = l.serving.relay });
  instances : l.serving.desk.splitter.instances ≡ l.initial.serving.desk.splitter.instances;
  batch : l.serving.desk.splitter.batch ≡ l.initial.serving.desk.splitter.batch;
  plan : g.I.Intake.plan l.intake ≡ g.I.Intake.plan l.initial.intake;
  token : g.I.Intake.token l.intake ≡ g.I.Intake.token l.initial.intake;
  out_plan : g.O.Outlet.plan l.outlet ≡ g.O.Outlet.plan l.initial.outlet;
  out_token : g.O.Outlet.token l.outlet ≡ g.O.Outlet.token l.initial.outlet;
}
