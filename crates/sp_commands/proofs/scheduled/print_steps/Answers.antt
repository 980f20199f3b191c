use Rattle.std.proofs.Common.{ℕ, List, Ok, sym, subst, ap, ◌∙◌, arith, rules}
use Rattle.std.specs.Prelude.{IsErr}
use Rattle.std.proofs.lemmas.List.{take_all}
use Rattle.sp_io.specs.Outside.{Grew, SinkState}
use Rattle.sp_trace.specs.Traced.{Tracing, after, lines_for, joined}
use Rattle.sp_answer.specs.Written.{WritesText}
use Rattle.sp_answer.specs.declared.written.Written.{Written}
use Rattle.sp_answer.specs.declared.written.Written.TheVariants.{All, Failed}
use Rattle.sp_answer.proofs.Writing.{whole_text}
use Rattle.sp_commands.proofs.Tracing.{text_from, after_more, one_grew, one_quiet, one_cut, one_short}
use Rattle.sp_commands.proofs.scheduled.print_steps.Goals as goal

pub returns-in_err-written : goal.returns-in_err-written
returns-in_err-written g c =
    let start = c.args.tracer.now in
    let xs = c.args.steps.now in
    let x = c.step-item.result in
    let at = c.loop-step.invariant in
    let old : SinkState = g.K.Sink.state c.args.out.now in
    let mid : SinkState = g.K.Sink.state c.loop-step.out in
    let new : SinkState = g.K.Sink.state c.print_step.new.out in
    let own = c.print_step.result in
    let failed : IsErr own = search rules in
    one_short start xs c.loop-step.step-index x (omega arith) c.step-item.is old mid new at.grew at.faults own c.from_residual.result failed c.from_residual.ensures.0
    (subst (λ (t : Tracing). WritesText (joined (lines_for t x)) mid new own) at.state c.print_step.ensures.text)

pub returns-in-Failed : goal.returns-in-Failed
returns-in-Failed g c =
    let start = c.args.tracer.now in
    let x = c.step-item.result in
    let at = c.loop-step.invariant in
    let mid : SinkState = g.K.Sink.state c.loop-step.out in
    let new : SinkState = g.K.Sink.state c.print_step.new.out in
    let own = subst (λ (w : Written). WritesText (joined (lines_for c.loop-step.tracer x)) mid new (Ok w)) c.in-Failed.is c.in_ok-written.ensures.text in
    one_cut start c.args.steps.now c.loop-step.step-index x (omega arith) c.step-item.is (g.K.Sink.state c.args.out.now) mid new at.grew at.faults
    (subst (λ (t : Tracing). WritesText (joined (lines_for t x)) mid new (Ok Failed)) at.state own)

pub loop-step-preserved : goal.loop-step-preserved
loop-step-preserved g c =
    let start = c.args.tracer.now in
    let xs = c.args.steps.now in
    let i = c.loop-step.step-index in
    let x = c.step-item.result in
    let at = c.loop-step.invariant in
    let old : SinkState = g.K.Sink.state c.args.out.now in
    let mid : SinkState = g.K.Sink.state c.loop-step.out in
    let new : SinkState = g.K.Sink.state c.print_step.new.out in
    let own = subst (λ (w : Written). WritesText (joined (lines_for c.loop-step.tracer x)) mid new (Ok w)) c.in-All.is c.in_ok-written.ensures.text in
    let piece = subst (λ (t : Tracing). WritesText (joined (lines_for t x)) mid new (Ok All)) at.state own in
    record {
      state = c.in_ok-written.ensures.ok ∙ ap (λ (t : Tracing). after t x) at.state ∙ sym (after_more start xs i x (omega arith) c.step-item.is);
      grew = one_grew start xs i x (omega arith) c.step-item.is old mid new at.grew at.faults piece;
      faults = one_quiet start xs i x (omega arith) c.step-item.is old mid new at.grew at.faults piece;
    }

pub returns : goal.returns
returns g c =
    let start = c.args.tracer.now in
    let old : SinkState = g.K.Sink.state c.args.out.now in
    let new : SinkState = g.K.Sink.state c.loop-step.out in
    let whole = ap (text_from start) (take_all c.loop-step.step-index c.args.steps.now (omega arith)) in
    whole_text _ old new (subst (λ (l : List ℕ). Grew old.held l new.held) whole c.loop-step.invariant.grew) c.loop-step.invariant.faults
