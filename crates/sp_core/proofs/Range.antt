-- The numbers of a range that pass a test.
use Rattle.std.proofs.Common.{◌≡◌, ℕ, zero, suc, ◌+◌, Bool, true, false, refl, ◌&&◌, ◌||◌, ◌==◌, List, filter, sym, ap, ◌∙◌, arith}
use Rattle.std.specs.List.{range_with_len}
use Rattle.std.specs.List.Sorted.{IsStrictlyIncreasing}
use Rattle.std.proofs.lemmas.Bool.Decides.{nat_tests}
use Rattle.std.proofs.lemmas.List.FromFn.{get_or-range_with_len, length-range_with_len}
use Rattle.std.proofs.lemmas.List.Kept.{IsStrictlyIncreasing-filter}
use Rattle.sp_base.specs.Numbers.{is_within, RisingSame, is_among}
use Rattle.sp_core.proofs.KeptBack.{has_filtered}

has_range : (first n i : ℕ) → is_among (range_with_len first n) i ≡ is_within first n i
has_range first zero i = none
  where
    none : false ≡ is_within first 0 i
    none = grind (arith, nat_tests)
has_range first (suc n) i = ap (λ (b : Bool). first == i || b) (has_range (first + 1) n i) ∙ more
  where
    more : (first == i || is_within (first + 1) n i) ≡ is_within first (suc n) i
    more = grind (arith, nat_tests)

range_rises : (first n : ℕ) → IsStrictlyIncreasing (range_with_len first n)
range_rises first n k within =
    let all = length-range_with_len first n in
    let here = get_or-range_with_len first n k 0 (omega arith) in
    let next = get_or-range_with_len first n (k + 1) 0 (omega arith) in
    omega arith

and_swaps : (a b : Bool) → (a && b) ≡ (b && a)
and_swaps true true = refl
and_swaps true false = refl
and_swaps false true = refl
and_swaps false false = refl

-- a rising list that has just those numbers is their list
pub passing_is : RisingSame → (p : ℕ → Bool) (first n : ℕ) (ns : List ℕ) → IsStrictlyIncreasing ns → ((i : ℕ) → is_among ns i ≡ (is_within first n i && p i))
    → ns ≡ filter p (range_with_len first n)
passing_is same p first n ns rising has_them =
    same ns (filter p (range_with_len first n)) rising (IsStrictlyIncreasing-filter p (range_with_len first n) (range_rises first n))
    (λ i. has_them i ∙ and_swaps (is_within first n i) (p i) ∙ ap (λ (b : Bool). p i && b) (sym (has_range first n i)) ∙ sym (has_filtered p (range_with_len first n) i))
