-- Those of some numbers that lie between two.
use Rattle.std.proofs.Common.{◌≡◌, inl, inr, ℕ, zero, suc, ◌+◌, ◌-◌, ◌<◌, ◌≤◌, Bool, true, false, ◌&&◌, List, [], ◌∷◌, ◌++◌, refl, sym, ap, ◌∙◌, subst, arith}
use Rattle.std.specs.Prelude.{filter, ◌==◌, if◌then◌else◌}
use Rattle.std.specs.List.{All, range_with_len}
use Rattle.std.proofs.lemmas.Bool.{cases_Bool}
use Rattle.std.proofs.lemmas.Bool.Decides.{nat_tests}
use Rattle.std.proofs.lemmas.List.Elements.{All-head, All-tail, All-weaker, All-filter}
use Rattle.std.proofs.lemmas.List.{append-nil}
use Rattle.sp_base.specs.Numbers.{is_among, is_within}
use Rattle.sp_window.proofs.Lists.{filter_same, range_within}
use Rattle.sp_cert.specs.Proofs.{those_within}

-- whether a number is among those that pass a test
among_filter : (p : ℕ → Bool) (ns : List ℕ) (k : ℕ) → is_among (filter p ns) k ≡ (p k && is_among ns k)
among_filter p [] k = by (p k)
  where
    by : (b : Bool) → false ≡ (b && false)
    by true = refl
    by false = refl
among_filter p (n ∷ ns) k =
    let rest = among_filter p ns k in
    elim (cases_Bool (n == k)) [
      | inl same ↦
          let is : n ≡ k = grind (arith, nat_tests) in
          elim (cases_Bool (p n)) [
            | inl keeps ↦ let own : p k ≡ true = ap p (sym is) ∙ keeps in rw (keeps, own, same)
            | inr drops ↦ let own : p k ≡ false = ap p (sym is) ∙ drops in rw (drops, rest, own)
          ]
      | inr other ↦ elim (cases_Bool (p n)) [ inl keeps ↦ rw (keeps, other, rest) | inr drops ↦ rw (drops, other, rest) ]
    ]

-- whether a number is in a range
among_range : (a n k : ℕ) → is_among (range_with_len a n) k ≡ is_within a n k
among_range a zero k = grind (arith, nat_tests)
among_range a (suc n) k = let rest = among_range (a + 1) n k in rw rest (grind (arith, nat_tests))

-- one between them is among those where it is among all
pub among_within : (first last k : ℕ) (numbers : List ℕ) → first ≤ k → k ≤ last → is_among (those_within first last numbers) k ≡ is_among numbers k
among_within first last k numbers low high =
    let count : ℕ = last + 1 - first in
    let inside : is_among (range_with_len first count) k ≡ true = among_range first count k ∙ grind (arith, nat_tests) in
    among_filter (is_among numbers) (range_with_len first count) k ∙ ap (λ (b : Bool). is_among numbers k && b) inside ∙ both (is_among numbers k)
  where
    both : (b : Bool) → (b && true) ≡ b
    both true = refl
    both false = refl

-- a number among some keeps what all of them keep
pub among_all : (P : ℕ → Type 0) (ns : List ℕ) (k : ℕ) → All P ns → is_among ns k ≡ true → P k
among_all P [] k all is = absurd (cc is)
among_all P (n ∷ ns) k all is = elim (cases_Bool (n == k)) [
  | inl same ↦ let e : n ≡ k = grind (arith, nat_tests) in subst P e (All-head P n ns all)
  | inr other ↦ let rest : is_among ns k ≡ true = rw other at is in among_all P ns k (All-tail P n ns all) rest
]

-- where all lie between them none is lost
pub among_all_within : (first last k : ℕ) (numbers : List ℕ) → All (λ m. (first ≤ m) × (m ≤ last)) numbers → is_among (those_within first last numbers) k ≡ is_among numbers k
among_all_within first last k numbers all =
    let count : ℕ = last + 1 - first in
    among_filter (is_among numbers) (range_with_len first count) k ∙ ap (λ (b : Bool). is_among numbers k && b) (among_range first count k) ∙ by (is_among numbers k) refl
  where
    by : (b : Bool) → is_among numbers k ≡ b → (b && is_within first (last + 1 - first) k) ≡ b
    by true is = let within = among_all (λ m. (first ≤ m) × (m ≤ last)) numbers k all is in let low = within.0 in let high = within.1 in grind (arith, nat_tests)
    by false is = refl

-- lists that have the same numbers between them
pub within_same : (first last : ℕ) (ones others : List ℕ) → ((k : ℕ) → first ≤ k → k ≤ last → is_among ones k ≡ is_among others k) → those_within first last ones ≡ those_within first last others
within_same first last ones others same =
    filter_same (is_among ones) (is_among others) (range_with_len first (last + 1 - first))
    (All-weaker (λ k. (first ≤ k) × (k < first + (last + 1 - first))) (λ k. is_among ones k ≡ is_among others k) (λ k its. let low = its.0 in let high = its.1 in same k low (omega arith)) (range_with_len first (last + 1 - first)) (range_within first (last + 1 - first)))

-- one number more of a range, which passes a test or doesn't
range_more : (p : ℕ → Bool) (a n : ℕ) → filter p (range_with_len a (suc n)) ≡ filter p (range_with_len a n) ++ (if p (a + n) then (a + n) ∷ [] else [])
range_more p a zero = let at : a + zero ≡ a = omega arith in rw at refl
range_more p a (suc n) =
    let at : a + 1 + n ≡ a + suc n = omega arith in
    let rest = subst (λ (m : ℕ). filter p (range_with_len (a + 1) (suc n)) ≡ filter p (range_with_len (a + 1) n) ++ (if p m then m ∷ [] else [])) at (range_more p (a + 1) n) in
    elim (cases_Bool (p a)) [ inl keeps ↦ rw keeps (ap (λ l. a ∷ l) rest) | inr drops ↦ rw drops rest ]

module _ (p : ℕ → Bool) (first number : ℕ) (low : first ≤ number) (list : List ℕ) (is : list ≡ filter p (range_with_len first (number - first))) where
  more : filter p (range_with_len first (number + 1 - first)) ≡ list ++ (if p number then number ∷ [] else [])
  more =
      let size : number + 1 - first ≡ suc (number - first) = omega arith in
      let at : first + (number - first) ≡ number = omega arith in
      ap (λ (n : ℕ). filter p (range_with_len first n)) size ∙ range_more p first (number - first) ∙ (λ i. sym is i ++ (if p (at i) then (at i) ∷ [] else []))

  -- the numbers so far are below the next one
  pub below_next : All (λ m. m < number) list
  below_next =
      subst (All (λ m. m < number)) (sym is)
      (All-filter p (λ m. m < number) (range_with_len first (number - first))
      (All-weaker (λ k. (first ≤ k) × (k < first + (number - first))) (λ k. k < number) (λ k its. let high = its.1 in omega arith) (range_with_len first (number - first)) (range_within first (number - first))))

  -- it is one more where it passes
  pub one_passes : p number ≡ true → list ++ number ∷ [] ≡ filter p (range_with_len first (number + 1 - first))
  one_passes passes = let all = more in sym (rw passes at all)

  -- and none where it doesn't
  pub none_passes : p number ≡ false → list ≡ filter p (range_with_len first (number + 1 - first))
  none_passes fails = let all = more in sym ((rw fails at all) ∙ append-nil list)
