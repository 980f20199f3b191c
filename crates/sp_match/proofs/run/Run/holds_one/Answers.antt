use Rattle.std.proofs.Common.{◌≡◌, ℕ, ◌+◌, ◌-◌, ◌<◌, false, List, length, get_or, drop, sym, ap, subst, ◌∙◌, arith, rules}
use Rattle.std.specs.List.{list_any}
use Rattle.std.specs.List.Sorted.{IsStrictlyIncreasing}
use Rattle.std.proofs.lemmas.List.{get_or_default}
use Rattle.sp_base.specs.Numbers.{is_among}
use Rattle.sp_match.proofs.NumbersAreAbove.{Holds, held_here, none_held, none_of_none}
use Rattle.sp_match.proofs.run.Run.holds_one.Goals as goal

pub returns-then-is_empty : goal.returns-then-is_empty
returns-then-is_empty c =
    let empty : length c.list-numbers_listed.result.now ≡ 0 = search rules in
    sym (none_of_none c.args.numbers.now.list c.args.self.now.bound.items (sym (ap length c.list-numbers_listed.ensures.list) ∙ empty))

pub returns-then-number-first : goal.returns-then-number-first
returns-then-number-first c =
    let ns = c.args.numbers.now.list in
    let bs = c.args.self.now.bound.items in
    let i = c.loop-left.left - 1 in
    let d : ℕ × ℕ = (0, 0) in
    let one : c.loop-left.left ≡ i + 1 = omega (arith, c.loop-left-test.true) in
    let within : i < length bs = omega (arith, one, c.loop-left.invariant.within) in
    let up : IsStrictlyIncreasing ns = subst IsStrictlyIncreasing c.list-numbers_listed.ensures.list c.list-numbers_listed.ensures.rising in
    let none : list_any (Holds ns) (drop (i + 1) bs) ≡ false = subst (λ (n : ℕ). list_any (Holds ns) (drop n bs) ≡ false) one c.loop-left.invariant.none in
    let here : (get_or c.as_slice-bound.result.now i d).1 ≡ (get_or bs i d).1 = ap (λ (l : List (ℕ × ℕ)). (get_or l i d).1) c.as_slice-bound.ensures.value in
    let listed : get_or c.list-numbers_listed.result.now 0 0 ≡ get_or ns 0 0 = ap (λ (l : List ℕ). get_or l 0 0) c.list-numbers_listed.ensures.list in
    let below : (o : ℕ) → 0 < length ns → (get_or bs i d).1 < get_or ns 0 o = λ o some. let same = get_or_default ns 0 o 0 some in omega (arith, c.if-number-first.true, here, listed, same) in
    sym (none_held ns bs i d within c.requires up below none)

pub returns-then-has : goal.returns-then-has
returns-then-has c =
    let ns = c.args.numbers.now.list in
    let bs = c.args.self.now.bound.items in
    let i = c.loop-left.left - 1 in
    let d : ℕ × ℕ = (0, 0) in
    let within : i < length bs = omega (arith, c.loop-left-test.true, c.loop-left.invariant.within) in
    let here : (get_or c.as_slice-bound.result.now i d).1 ≡ (get_or bs i d).1 = ap (λ (l : List (ℕ × ℕ)). (get_or l i d).1) c.as_slice-bound.ensures.value in
    sym (held_here ns bs i d within (ap (is_among ns) (sym here) ∙ sym c.has.ensures ∙ c.if-has.true))
