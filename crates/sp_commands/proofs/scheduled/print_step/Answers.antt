use Rattle.std.proofs.Common.{◌≡◌, ℕ, List, Ok, map, refl, subst, ap, ◌∙◌}
use Rattle.std.specs.Prelude.{string_bytes}
use Rattle.sp_io.specs.Outside.{SinkState}
use Rattle.sp_trace.specs.Traced.{lines_for, joined}
use Rattle.sp_answer.specs.Written.{WritesText}
use Rattle.sp_io.proofs.Grew.{within_none}
use Rattle.sp_answer.proofs.Writing.{out_of_memory}
use Rattle.sp_commands.proofs.scheduled.print_step.Goals as goal

pub returns-in_err-lines-clause-text : goal.returns-in_err-lines-clause-text
returns-in_err-lines-clause-text g c = out_of_memory _ _ _ _ c.from_residual.ensures.0 (within_none _ _) refl

pub returns-clause-text : goal.returns-clause-text
returns-clause-text g c =
    let old : SinkState = g.K.Sink.state c.args.out.now in
    let new : SinkState = g.K.Sink.state c.write_texts.new.out in
    let lines : joined (map string_bytes c.deref.result.now) ≡ joined (lines_for c.args.tracer.now c.args.step.now) =
    ap (λ ls. joined (map string_bytes ls)) c.deref.ensures.value ∙ ap joined c.in_ok-lines.ensures.lines in
    subst (λ (l : List ℕ). WritesText l old new (Ok c.write_texts.result)) lines c.write_texts.ensures
