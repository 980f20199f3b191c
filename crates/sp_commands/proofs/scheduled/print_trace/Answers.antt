use Rattle.std.proofs.Common.{refl, subst}
use Rattle.sp_io.specs.Outside.{SinkState}
use Rattle.sp_trace.specs.Traced.{Tracing, lines_from, joined}
use Rattle.sp_answer.specs.Written.{WritesText}
use Rattle.sp_io.proofs.Grew.{within_none}
use Rattle.sp_answer.proofs.Writing.{out_of_memory}
use Rattle.sp_commands.proofs.scheduled.print_trace.Goals as goal

pub returns-in_err-tracer : goal.returns-in_err-tracer
returns-in_err-tracer g c = out_of_memory _ _ _ _ c.from_residual.ensures.0 (within_none _ _) refl

pub returns : goal.returns
returns g c =
    let old : SinkState = g.K.Sink.state c.args.out.now in
    let new : SinkState = g.K.Sink.state c.print_steps.new.out in
    subst (λ (t : Tracing). WritesText (joined (lines_from t c.args.steps.now)) old new c.print_steps.result) c.in_ok-tracer.ensures c.print_steps.ensures
