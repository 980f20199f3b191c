use Rattle.std.proofs.Common.{◌≡◌, ◌≤◌, ◌+◌, length, true, false}
use Rattle.sp_split.specs.Stages.{AllFinished, AskedOn, FedOn, GoesOn}
use Rattle.sp_split.proofs.feeding.feed_batch.Given as goal

abbrev pub invariant-loop : goal.invariant-loop
invariant-loop g l = record {
  on : FedOn (g.D.Driver.core l.initial.driver) (g.D.Driver.core l.driver);
  given : (from : _) → g.I.Intake.gave from (g.D.Driver.core l.initial.driver).machine.events l.initial.intake → g.I.Intake.gave from (g.D.Driver.core l.driver).machine.events l.intake;
  asked : AskedOn g.I.Intake.asked (AllFinished (g.D.Driver.core l.initial.driver)) (g.D.Driver.core l.initial.driver).machine.events (g.D.Driver.core l.driver).machine.events l.initial.intake l.intake;
  first : l.may_ask ≡ true → AllFinished (g.D.Driver.core l.initial.driver) × ((g.D.Driver.core l.driver).machine.events ≡ (g.D.Driver.core l.initial.driver).machine.events);
  unended : (g.D.Driver.core l.driver).machine.ended ≡ false;
  goes_on : GoesOn g.I.Intake.ended g.I.Intake.stops l.initial.intake l.intake;
  few : length (g.D.Driver.core l.driver).machine.events ≤ length (g.D.Driver.core l.initial.driver).machine.events + l.counter;
  ready : g.D.Driver.ready l.driver;
  instances : g.D.Driver.instances l.driver ≡ g.D.Driver.instances l.initial.driver;
  batch : g.D.Driver.batch l.driver ≡ g.D.Driver.batch l.initial.driver;
  team : g.D.Driver.team l.driver ≡ g.D.Driver.team l.initial.driver;
  plan : g.I.Intake.plan l.intake ≡ g.I.Intake.plan l.initial.intake;
  token : g.I.Intake.token l.intake ≡ g.I.Intake.token l.initial.intake;
}
