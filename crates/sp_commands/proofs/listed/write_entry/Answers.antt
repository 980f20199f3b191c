use Rattle.std.proofs.Common.{◌≡◌, ◌++◌, ℕ, List, Ok, map, refl, subst, ap, ◌∙◌}
use Rattle.std.specs.Prelude.{string_bytes}
use Rattle.sp_io.specs.Outside.{SinkState}
use Rattle.sp_io.proofs.Grew.{within_none}
use Rattle.sp_plan.specs.Lines.{line}
use Rattle.sp_listing.specs.Listing.{entry_text, head_line, seen}
use Rattle.sp_trace.specs.Traced.{joined}
use Rattle.sp_answer.specs.Written.{WritesText}
use Rattle.sp_answer.proofs.Writing.{out_of_memory}
use Rattle.sp_commands.proofs.LinesOf.{joined_map}
use Rattle.sp_commands.proofs.listed.write_entry.Goals as goal

pub returns-in_err-lines : goal.returns-in_err-lines
returns-in_err-lines g c = out_of_memory _ _ _ _ c.from_residual.ensures.0 (within_none _ _) refl

pub returns : goal.returns
returns g c =
    let old : SinkState = g.K.Sink.state c.args.out.now in
    let new : SinkState = g.K.Sink.state c.write_texts.new.out in
    let q = c.args.plan.now in
    let e = seen c.args.entry.now in
    let lines : joined (map string_bytes c.deref.result.now) ≡ entry_text q e =
    ap (λ ls. joined (map string_bytes ls)) c.deref.ensures.value ∙ ap joined c.in_ok-lines.ensures
    ∙ ap (λ (l : List ℕ). head_line e ++ l) (joined_map (line q) e.matches) in
    subst (λ (l : List ℕ). WritesText l old new (Ok c.write_texts.result)) lines c.write_texts.ensures
