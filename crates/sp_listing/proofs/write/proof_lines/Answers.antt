use Rattle.std.proofs.Common.{◌<◌, ◌∷◌, ◌++◌, [], length, map, take, ℕ, List, ◌∙◌, ap, sym, arith}
use Rattle.std.specs.Prelude.{string_bytes}
use Rattle.std.proofs.lemmas.List.{map_push, map_more, take_all}
use Rattle.sp_plan.specs.declared.found.Match.{Match}
use Rattle.sp_plan.specs.Lines.{line}
use Rattle.sp_listing.specs.Listing.{head_line, seen}
use Rattle.sp_listing.proofs.write.proof_lines.Goals as goal

pub loop-found-preserved : goal.loop-found-preserved
loop-found-preserved c =
    let q = c.args.plan.now in
    let ms = c.deref-found-items.result.now in
    let i = c.loop-found.found-index in
    let m = c.found-item.result in
    let inside : i < length ms = omega arith in
    let head = head_line (seen c.args.proof.now) in
    ap (map string_bytes) c.in_ok-push-2.ensures.items ∙ map_push string_bytes c.loop-found.lines.items c.in_ok-match_line.field-0
    ∙ (λ k. c.loop-found.invariant k ++ c.in_ok-match_line.ensures.line k ∷ [])
    ∙ (λ k. head ∷ (map (line q) (take i ms) ++ line q (c.found-item.is k) ∷ []))
    ∙ ap (λ (ls : List (List ℕ)). head ∷ ls) (sym (map_more (line q) ms i m inside))

pub returns : goal.returns
returns c =
    let whole = take_all c.loop-found.found-index c.deref-found-items.result.now (omega arith) ∙ c.deref-found-items.ensures.value in
    c.loop-found.invariant ∙ ap (λ (ms : List Match). head_line (seen c.args.proof.now) ∷ map (line c.args.plan.now) ms) whole
