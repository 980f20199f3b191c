use Rattle.std.proofs.Common.{◌≡◌, take}
use Rattle.std.specs.List.{fold}
use Rattle.sp_io.specs.Outside.{Grew}
use Rattle.sp_trace.specs.Traced.{after}
use Rattle.sp_commands.proofs.Tracing.{text_from}
use Rattle.sp_commands.proofs.scheduled.print_steps.Given as goal

abbrev pub invariant-loop-step : goal.invariant-loop-step
invariant-loop-step g l = record {
  state : l.tracer ≡ fold after l.initial.tracer (take l.step-index l.steps);
  grew : Grew ((g.K.Sink.state l.initial.out).held) (text_from l.initial.tracer (take l.step-index l.steps)) (g.K.Sink.state l.out).held;
  faults : (g.K.Sink.state l.out).faults ≡ (g.K.Sink.state l.initial.out).faults;
}
