-- The events of a window are a part of the list.
use Rattle.std.proofs.Common.{◌≡◌, inl, inr, ℕ, suc, ◌+◌, ◌-◌, ◌≤◌, Bool, true, false, ◌&&◌, leb, ltb, List, [], ◌∷◌, take, drop, refl, sym, ◌∙◌, ap, subst, arith}
use Rattle.std.specs.Prelude.{filter}
use Rattle.std.specs.List.{enumerate_from}
use Rattle.std.proofs.lemmas.Bool.{cases_lt}
use Rattle.std.proofs.lemmas.Bool.Decides.{nat_tests}
use Rattle.std.proofs.lemmas.List.{drop_all, take_all}
use Rattle.std.proofs.lemmas.List.Elements.{filter_agree}
use Rattle.sp_plan.specs.declared.event.Event.{Event}
use Rattle.sp_plan.specs.Windows.{Numbered, numbered, Window, events_of}

-- the numbers from a on below b
abbrev is_between : ℕ → ℕ → Numbered → Bool
is_between a b x = leb a x.0 && ltb x.0 b

-- no number is below b where all are from b on
between_none : (a b k : ℕ) (xs : List Event) → b ≤ k → filter (is_between a b) (enumerate_from k xs) ≡ []
between_none a b k [] past = refl
between_none a b k (x ∷ xs) past =
    let out : is_between a b (k, x) ≡ false = grind (arith, nat_tests) in
    rw out (between_none a b (k + 1) xs (omega arith))

-- the numbers below b are the first ones
between_start : (b k : ℕ) (xs : List Event) (a : ℕ) → a ≤ k → k ≤ b → filter (is_between a b) (enumerate_from k xs) ≡ take (b - k) (enumerate_from k xs)
between_start b k [] a from to = elim (cases_lt k b) [ inl below ↦ let at : b - k ≡ suc (b - k - 1) = omega arith in rw at | inr above ↦ let at : b - k ≡ 0 = omega arith in rw at ]
between_start b k (x ∷ xs) a from to = elim (cases_lt k b) [
  | inl below ↦
      let inside : is_between a b (k, x) ≡ true = grind (arith, nat_tests) in
      let at : b - k ≡ suc (b - (k + 1)) = omega arith in
      rw (inside, at) (ap (λ l. (k, x) ∷ l) (between_start b (k + 1) xs a (omega arith) (omega arith)))
  | inr above ↦
      let at : b - k ≡ 0 = omega arith in
      rw at (between_none a b k (x ∷ xs) (omega arith))
]

-- the numbers between two are a part of the list
between_is : (a b k : ℕ) (xs : List Event) → k ≤ a → a ≤ b → filter (is_between a b) (enumerate_from k xs) ≡ take (b - a) (drop (a - k) (enumerate_from k xs))
between_is a b k [] from to = sym (ap (λ (l : List Numbered). take (b - a) l) (drop_all (a - k) [] (omega arith)) ∙ take_all (b - a) [] (omega arith))
between_is a b k (x ∷ xs) from to = elim (cases_lt k a) [
  | inl below ↦
      let outside : is_between a b (k, x) ≡ false = grind (arith, nat_tests) in
      let at : a - k ≡ suc (a - (k + 1)) = omega arith in
      rw (outside, at) (between_is a b (k + 1) xs (omega arith) to)
  | inr here ↦
      let none : k - k ≡ 0 = omega arith in
      let same : k ≡ a = omega arith in
      let P : ℕ → Type 0 = λ n. filter (is_between n b) (enumerate_from k (x ∷ xs)) ≡ take (b - n) (drop (n - k) (enumerate_from k (x ∷ xs))) in
      subst P same (rw none (between_start b k (x ∷ xs) k (omega arith) (omega arith)))
]

-- the events of a window are those from its first on up to its last
pub events_are : (events : List Event) (w : Window) → 1 ≤ w.first → w.first ≤ w.last + 1 → events_of events w ≡ take (w.last + 1 - w.first) (drop (w.first - 1) (numbered events))
events_are events w low high =
    filter_agree (λ (x : Numbered). leb w.first x.0 && leb x.0 w.last) (is_between w.first (w.last + 1)) (λ x. agree w.first w.last x.0) (numbered events)
    ∙ between_is w.first (w.last + 1) 1 events low high
  where
    agree : (a b n : ℕ) → (leb a n && leb n b) ≡ (leb a n && ltb n (b + 1))
    agree a b n = grind (arith, nat_tests)
