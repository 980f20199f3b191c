-- A list of pairs whose numbers rise: those below all of some numbers have none of them.
use Rattle.std.proofs.Common.{◌≡◌, ℕ, zero, suc, ◌<◌, ◌≤◌, Bool, false, ◌||◌, List, [], ◌∷◌, length, get_or, map, drop, inl, inr, Some, rules, refl, sym, subst, ◌∙◌, arith}
use Rattle.std.specs.List.{AllPairs, list_any, slice_get}
use Rattle.std.specs.List.Sorted.{IsStrictlyIncreasing, IsNonDecreasingBy}
use Rattle.std.proofs.lemmas.Bool.{cases_eq}
use Rattle.std.proofs.lemmas.List.{get_or-map, length-map}
use Rattle.sp_base.specs.Numbers.{is_among}
use Rattle.sp_base.proofs.Rising.{above_lower, rises_from, not_above}

-- what fails on the first elements is found behind them or not at all
pub any_behind : {X : Type 0} (p : X → Bool) (xs : List X) (k : ℕ) → ((i : ℕ) (d : X) → i < k → i < length xs → p (get_or xs i d) ≡ false) → list_any p xs ≡ list_any p (drop k xs)
any_behind p xs zero none = refl
any_behind p [] (suc k) none = refl
any_behind p (x ∷ xs) (suc k) none = (λ i. none 0 x (omega arith) (omega arith) i || list_any p xs) ∙ any_behind p xs k (λ i d under inside. none (suc i) d (omega (arith, under)) (omega (arith, inside)))

-- a number below the first of numbers that rise isn't among them
pub none_below : (ns : List ℕ) (n : ℕ) → IsStrictlyIncreasing ns → ((d : ℕ) → 0 < length ns → n < get_or ns 0 d) → is_among ns n ≡ false
none_below [] n up first = refl
none_below (m ∷ ns) n up first =
    let low : n < m = first 0 (omega arith) in
    not_above n (m ∷ ns) (low, above_lower n m ns low (rises_from (m ∷ ns) up).0)

-- the first number, where there is one
pub at_first : (ns : List ℕ) (n d : ℕ) → slice_get ns 0 ≡ Some n → n ≡ get_or ns 0 d
at_first [] n d is = absurd (is_none is)
  where
    is_none : slice_get {X = ℕ} [] 0 ≡ Some n → ⊥
    is_none same = search rules
at_first (m ∷ ns) n d is = search (rules, is)

-- numbers that rise don't fall
pub never_fall : (ps : List (ℕ × ℕ)) → AllPairs (λ m n. m < n) (map (λ pair. pair.1) ps) → IsNonDecreasingBy (λ (pair : ℕ × ℕ). pair.1) ps
never_fall ps rising i j d upto inside = elim (cases_eq i j) [
  | inl same ↦ subst (λ k. (get_or ps i d).1 ≤ (get_or ps k d).1) same (omega arith)
  | inr differ ↦
      let under : i < j = omega (arith, upto, differ) in
      let here : get_or (map (λ (pair : ℕ × ℕ). pair.1) ps) i d.1 ≡ (get_or ps i d).1 = get_or-map (λ pair. pair.1) ps i d d.1 (omega (arith, under, inside)) in
      let there : get_or (map (λ (pair : ℕ × ℕ). pair.1) ps) j d.1 ≡ (get_or ps j d).1 = get_or-map (λ pair. pair.1) ps j d d.1 inside in
      let step = rising i j d.1 under (subst (λ k. j < k) (sym (length-map ps (λ (pair : ℕ × ℕ). pair.1))) inside) in
      omega (arith, here, there, step)
]
