use Rattle.std.proofs.Common.{◌≡◌, ◌+◌, ◌-◌, ◌||◌, [], ◌∷◌, true, false, sym, ap, ◌∙◌, arith}
use Rattle.std.specs.List.{list_any, range_with_len}
use Rattle.std.proofs.lemmas.List.Folds.{list_any-append}
use Rattle.sp_match.specs.inside.Kept.{kept, pairs}
use Rattle.sp_match.specs.inside.Offer.{answer}
use Rattle.sp_match.proofs.Searches.{range_at, range_push}
use Rattle.sp_match.proofs.taking.fulfils_one.Goals as goal

pub returns-then-takes_as : goal.returns-then-takes_as
returns-then-takes_as c =
    let p = answer c.args.offer.now c.args.at (pairs (kept c.args.run.now)) in
    let first = c.args.first in
    let past = c.args.past in
    let i = c.loop-name.name - first in
    let rest = range_with_len (first + i + 1) (past - first - i - 1) in
    let e : first + i ≡ c.loop-name.name = omega arith in
    let holds : p (first + i) ≡ true = ap p e ∙ sym c.takes_as.ensures ∙ c.if-takes_as.true in
    sym (ap (list_any p) (range_at first (past - first) i (omega arith)) ∙ list_any-append p (range_with_len first i) ((first + i) ∷ rest) ∙ λ k. c.loop-name.invariant k || (holds k || list_any p rest))

pub loop-name-preserved : goal.loop-name-preserved
loop-name-preserved c =
    let p = answer c.args.offer.now c.args.at (pairs (kept c.args.run.now)) in
    let first = c.args.first in
    let i = c.loop-name.name - first in
    let e : first + i ≡ c.loop-name.name = omega arith in
    let f : c.loop-name.name + 1 - first ≡ i + 1 = omega arith in
    let fails : p (first + i) ≡ false = ap p e ∙ sym c.takes_as.ensures ∙ c.if-takes_as.false in
    ap (λ n. list_any p (range_with_len first n)) f ∙ ap (list_any p) (range_push first i) ∙ list_any-append p (range_with_len first i) ((first + i) ∷ []) ∙ λ k. c.loop-name.invariant k || (fails k || false)
