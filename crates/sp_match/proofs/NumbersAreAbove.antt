-- Numbers that rise, and which of them a run may hold.
use Rattle.std.proofs.Common.{◌≡◌, ℕ, zero, suc, ◌+◌, ◌<◌, ◌≤◌, Bool, true, false, ◌||◌, ◌==◌, List, [], ◌∷◌, ◌++◌, length, get_or, map, take, drop, take-append-drop, inl, inr, refl, sym, ap, ◌∙◌, add-one, arith}
use Rattle.std.specs.List.{AllPairs, list_any}
use Rattle.std.specs.List.Sorted.{IsStrictlyIncreasing}
use Rattle.std.proofs.lemmas.Bool.{cases_eq}
use Rattle.std.proofs.lemmas.Bool.Decides.{nat_tests}
use Rattle.std.proofs.lemmas.List.{drop_more, get_or-map, get_or_default, length-map}
use Rattle.std.proofs.lemmas.List.Folds.{list_any-append}
use Rattle.sp_base.specs.Numbers.{is_among}

-- a number below the first isn't among them
pub not_below_first : (ns : List ℕ) (n : ℕ) → IsStrictlyIncreasing ns → ((d : ℕ) → 0 < length ns → n < get_or ns 0 d) → is_among ns n ≡ false
not_below_first [] n up first = refl
not_below_first (m ∷ ns) n up first =
    let above : n < m = first 0 (omega arith) in
    let here : (m == n) ≡ false = grind (arith, nat_tests) in
    (λ i. here i || is_among ns n) ∙ not_below_first ns n (λ k below. simp add-one (simp add-one at (up (suc k) (omega arith)))) (λ d some. next ns d some up)
  where
    next : (ns : List ℕ) (d : ℕ) → 0 < length ns → IsStrictlyIncreasing (m ∷ ns) → n < get_or ns 0 d
    next [] d some up = absurd (omega (arith, some))
    next (o ∷ ns) d some up = let step : m < o = up 0 (omega arith) in let above : n < m = first 0 (omega arith) in omega (arith, step, above)

-- none of the first ones
none_of_first : {X : Type 0} (p : X → Bool) (xs : List X) (k : ℕ) → ((i : ℕ) (d : X) → i < k → i < length xs → p (get_or xs i d) ≡ false) → list_any p (take k xs) ≡ false
none_of_first p [] zero none = refl
none_of_first p [] (suc k) none = refl
none_of_first p (x ∷ xs) zero none = refl
none_of_first p (x ∷ xs) (suc k) none = (λ i. none 0 x (omega arith) (omega arith) i || list_any p (take k xs)) ∙ none_of_first p xs k (λ i d under inside. none (suc i) d (omega (arith, under)) (omega (arith, inside)))

-- the pairs from a place on
abbrev pub Holds : List ℕ → ℕ × ℕ → Bool
Holds ns pair = is_among ns pair.1

module _ (ns : List ℕ) (bs : List (ℕ × ℕ)) where
  -- one place more from the end
  pub none_more : (left : ℕ) (d : ℕ × ℕ) → left < length bs → list_any (Holds ns) (drop (left + 1) bs) ≡ false → is_among ns (get_or bs left d).1 ≡ false → list_any (Holds ns) (drop left bs) ≡ false
  none_more left d within none fails = ap (list_any (Holds ns)) (drop_more bs left d within) ∙ (λ i. fails i || list_any (Holds ns) (drop (left + 1) bs)) ∙ none

  -- the number at the place is one of them
  pub held_here : (left : ℕ) (d : ℕ × ℕ) → left < length bs → is_among ns (get_or bs left d).1 ≡ true → list_any (Holds ns) bs ≡ true
  held_here left d within holds =
      ap (list_any (Holds ns)) (sym (take-append-drop left bs) ∙ ap (λ (l : List (ℕ × ℕ)). take left bs ++ l) (drop_more bs left d within))
      ∙ list_any-append (Holds ns) (take left bs) (get_or bs left d ∷ drop (left + 1) bs)
      ∙ (λ i. list_any (Holds ns) (take left bs) || (holds i || list_any (Holds ns) (drop (left + 1) bs))) ∙ or_true (list_any (Holds ns) (take left bs))
    where
      or_true : (b : Bool) → (b || true) ≡ true
      or_true true = refl
      or_true false = refl

  -- all from the place on are none of them, and the ones before are below the first
  pub none_held : (left : ℕ) (d : ℕ × ℕ) → left < length bs → AllPairs (λ m n. m < n) (map (λ pair. pair.1) bs) → IsStrictlyIncreasing ns → ((o : ℕ) → 0 < length ns → (get_or bs left d).1 < get_or ns 0 o)
      → list_any (Holds ns) (drop (left + 1) bs) ≡ false → list_any (Holds ns) bs ≡ false
  none_held left d within rising up below none =
      ap (list_any (Holds ns)) (sym (take-append-drop (left + 1) bs)) ∙ list_any-append (Holds ns) (take (left + 1) bs) (drop (left + 1) bs)
      ∙ (λ i. front i || none i)
    where
      number : (i : ℕ) (e : ℕ × ℕ) → i < length bs → get_or (map (λ pair. pair.1) bs) i e.1 ≡ (get_or bs i e).1
      number i e inside = get_or-map (λ pair. pair.1) bs i e e.1 inside

      low : (i : ℕ) (e : ℕ × ℕ) → i < left + 1 → i < length bs → (get_or bs i e).1 ≤ (get_or bs left e).1
      low i e under inside =
          elim (cases_eq i left) [
            | inl same ↦ omega (arith, ap (λ (k : ℕ). (get_or bs k e).1) same)
            | inr other ↦
                let less = rising i left e.1 (omega (arith, under, other)) (omega (arith, within, length-map bs (λ pair. pair.1))) in
                omega (arith, less, number i e inside, number left e within)
          ]

      front : list_any (Holds ns) (take (left + 1) bs) ≡ false
      front = none_of_first (Holds ns) bs (left + 1) (λ i e under inside. not_below_first ns (get_or bs i e).1 up (λ o some.
          let at = low i e under inside in
          let first = below o some in
          let same : (get_or bs left e).1 ≡ (get_or bs left d).1 = ap (λ (pair : ℕ × ℕ). pair.1) (get_or_default bs left e d within) in
          omega (arith, at, first, same)))

-- none is held of no numbers
pub none_of_none : (ns : List ℕ) (bs : List (ℕ × ℕ)) → length ns ≡ 0 → list_any (Holds ns) bs ≡ false
none_of_none [] [] e = refl
none_of_none [] (b ∷ bs) e = none_of_none [] bs e
none_of_none (n ∷ ns) bs e = absurd (omega (arith, e))
