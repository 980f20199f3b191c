use Rattle.std.proofs.Common.{◌≡◌, ℕ, ◌+◌, ◌-◌, ◌&&◌, [], ◌∷◌, ◌++◌, true, false, not, Some, None, sym, ap, ◌∙◌, arith, rules}
use Rattle.std.specs.List.{find, filter, range_with_len}
use Rattle.sp_plan.specs.Runs.{is_bound}
use Rattle.sp_match.specs.inside.Kept.{kept, pairs}
use Rattle.sp_match.specs.inside.Offer.{answer}
use Rattle.sp_match.proofs.Searches.{range_at, range_push, find_filter, found_next, fails_next}
use Rattle.sp_match.proofs.taking.lacking.Goals as goal

pub returns-then-takes_anew : goal.returns-then-takes_anew
returns-then-takes_anew c =
    let r = pairs (kept c.args.run.now) in
    let p = answer c.args.offer.now c.args.at r in
    let t = λ (name : ℕ). not (is_bound r name) in
    let first = c.span-first.result.0 in
    let past = c.span-first.result.1 in
    let i = c.loop-name.name - first in
    let e : first + i ≡ c.loop-name.name = omega arith in
    let none : find (λ name. t name && p name) (range_with_len first i) ≡ None = sym (find_filter p t (range_with_len first i)) ∙ c.loop-name.invariant in
    let holds : (t (first + i) && p (first + i)) ≡ true = ap (λ n. t n && p n) e ∙ search rules in
    ap Some (sym e) ∙ sym (found_next (λ name. t name && p name) (range_with_len first i) (range_with_len (first + i + 1) (past - first - i - 1)) (first + i) none holds)
    ∙ sym (find_filter p t (range_with_len first i ++ (first + i) ∷ range_with_len (first + i + 1) (past - first - i - 1)))
    ∙ sym (ap (λ ns. find p (filter t ns)) (c.span-first.ensures.names ∙ range_at first (past - first) i (omega arith)))

pub loop-name-preserved : goal.loop-name-preserved
loop-name-preserved c =
    let r = pairs (kept c.args.run.now) in
    let p = answer c.args.offer.now c.args.at r in
    let t = λ (name : ℕ). not (is_bound r name) in
    let first = c.span-first.result.0 in
    let i = c.loop-name.name - first in
    let e : first + i ≡ c.loop-name.name = omega arith in
    let f : c.loop-name.name + 1 - first ≡ i + 1 = omega arith in
    let none : find (λ name. t name && p name) (range_with_len first i) ≡ None = sym (find_filter p t (range_with_len first i)) ∙ c.loop-name.invariant in
    let fails : (t (first + i) && p (first + i)) ≡ false = ap (λ n. t n && p n) e ∙ search rules in
    ap (λ n. find p (filter t (range_with_len first n))) f ∙ ap (λ ns. find p (filter t ns)) (range_push first i)
    ∙ find_filter p t (range_with_len first i ++ (first + i) ∷ []) ∙ fails_next (λ name. t name && p name) (range_with_len first i) (first + i) none fails
