use Rattle.std.proofs.Common.{ℕ, List, take, Ok, sym, subst, ap, ◌∙◌, arith}
use Rattle.std.specs.Prelude.{string_bytes}
use Rattle.std.specs.List.{flat_map}
use Rattle.std.proofs.lemmas.List.{take_all}
use Rattle.sp_io.specs.Outside.{Grew, SinkState}
use Rattle.sp_answer.specs.Written.{WritesText}
use Rattle.sp_answer.specs.declared.written.Written.TheVariants.{All, Failed}
use Rattle.sp_answer.proofs.Writing.{whole_text, cut_within, piece_grew, piece_quiet}
use Rattle.sp_commands.proofs.LinesOf.{text_more, parts, joined_map}
use Rattle.sp_commands.proofs.output.write_texts.Goals as goal

pub returns-in-Failed : goal.returns-in-Failed
returns-in-Failed g c =
    let ls = c.args.lines.now in
    let i = c.loop-line.line-index in
    let at = c.loop-line.invariant in
    let old : SinkState = g.K.Sink.state c.args.out.now in
    let mid : SinkState = g.K.Sink.state c.loop-line.out in
    let new : SinkState = g.K.Sink.state c.write_one.new.out in
    let piece = subst (λ (l : List ℕ). WritesText l mid new (Ok Failed)) c.as_str.ensures.value c.in-Failed.ensures in
    subst (λ (l : List ℕ). WritesText l old new (Ok Failed)) (sym (joined_map string_bytes ls))
    (cut_within _ (flat_map string_bytes (take i ls)) (string_bytes c.line-item.result) _ (parts string_bytes ls i c.line-item.result (omega arith) c.line-item.is) old mid new at.grew at.faults piece)

pub loop-line-preserved : goal.loop-line-preserved
loop-line-preserved g c =
    let ls = c.args.lines.now in
    let i = c.loop-line.line-index in
    let at = c.loop-line.invariant in
    let old : SinkState = g.K.Sink.state c.args.out.now in
    let mid : SinkState = g.K.Sink.state c.loop-line.out in
    let new : SinkState = g.K.Sink.state c.write_one.new.out in
    let piece = subst (λ (l : List ℕ). WritesText l mid new (Ok All)) c.as_str.ensures.value c.in-All.ensures in
    let are = parts string_bytes ls i c.line-item.result (omega arith) c.line-item.is in
    record {
      grew = subst (λ (l : List ℕ). Grew old.held l new.held) (sym (text_more string_bytes ls i c.line-item.result (omega arith) c.line-item.is)) (piece_grew _ (flat_map string_bytes (take i ls)) (string_bytes c.line-item.result) _ are old mid new at.grew at.faults piece);
      faults = piece_quiet _ (flat_map string_bytes (take i ls)) (string_bytes c.line-item.result) _ are old mid new at.grew at.faults piece;
    }

pub returns : goal.returns
returns g c =
    let ls = c.args.lines.now in
    let old : SinkState = g.K.Sink.state c.args.out.now in
    let new : SinkState = g.K.Sink.state c.loop-line.out in
    let whole = ap (flat_map string_bytes) (take_all c.loop-line.line-index ls (omega arith)) ∙ sym (joined_map string_bytes ls) in
    whole_text _ old new (subst (λ (l : List ℕ). Grew old.held l new.held) whole c.loop-line.invariant.grew) c.loop-line.invariant.faults
