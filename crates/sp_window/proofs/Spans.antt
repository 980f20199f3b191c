-- The spans of time that begin up to an event and are not over.
use Rattle.std.proofs.Common.{◌≡◌, inl, inr, ℕ, zero, suc, ◌+◌, ◌-◌, ◌*◌, ◌/◌, ◌<◌, ◌≤◌, max, Bool, true, false, ltb, ◌∷◌, length, refl, ap, ◌∙◌, arith}
use Rattle.std.specs.Prelude.{filter}
use Rattle.std.specs.List.{range_with_len}
use Rattle.std.proofs.lemmas.Bool.{cases_lt}
use Rattle.std.proofs.lemmas.Bool.Decides.{nat_tests}
use Rattle.std.proofs.lemmas.List.FromFn.{length-range_with_len}
use Rattle.std.proofs.lemmas.Nat.{mul-le}
use Rattle.std.proofs.Math.Nat.{div-mul-le_self, le-div_iff_mul-le}
use Rattle.sp_plan.specs.Windows.{FewPerEvent}
use Rattle.sp_window.specs.Openings.{goes_on, spans_begun, first_begun}

-- the numbers of a range all pass
range_all : (p : ℕ → Bool) (a n : ℕ) → ((k : ℕ) → a ≤ k → p k ≡ true) → filter p (range_with_len a n) ≡ range_with_len a n
range_all p a zero all = refl
range_all p a (suc n) all =
    let here = all a (omega arith) in
    rw here (ap (λ l. a ∷ l) (range_all p (a + 1) n (λ k low. all k (omega arith))))

-- the numbers of a range that pass, where those below lo fail and the others pass
range_from : (p : ℕ → Bool) (lo a n : ℕ) → a ≤ lo → ((k : ℕ) → a ≤ k → k < lo → p k ≡ false) → ((k : ℕ) → lo ≤ k → p k ≡ true) → filter p (range_with_len a n) ≡ range_with_len lo (a + n - lo)
range_from p lo a zero low out into = let none : a + 0 - lo ≡ 0 = omega arith in rw none
range_from p lo a (suc n) low out into = elim (cases_lt a lo) [
  | inl below ↦
      let shut = out a (omega arith) below in
      let same : a + 1 + n - lo ≡ a + suc n - lo = omega arith in
      rw shut (range_from p lo (a + 1) n (omega arith) (λ k from to. out k (omega arith) to) into ∙ ap (range_with_len lo) same)
  | inr above ↦
      let at : a ≡ lo = omega arith in
      let size : suc n ≡ a + suc n - lo = omega arith in
      range_all p a (suc n) (λ k from. into k (omega arith)) ∙ (λ i. range_with_len (at i) (size i))
]

-- the spans of a list that begin no later than this time are not over from the first on that is begun
module _ (step size next time : ℕ) (above : 0 < step) where
  -- a span that begins early enough is over
  late_by : (k : ℕ) → size ≤ time → k ≤ (time - size) / step → goes_on step size time k ≡ false
  late_by k long low =
      let product : k * step ≤ time - size = (le-div_iff_mul-le {k = step} {x = k} {y = time - size} above).0 low in
      grind (arith, nat_tests)

  -- and one that begins later is not
  early_by : (k : ℕ) → size ≤ time → (time - size) / step + 1 ≤ k → goes_on step size time k ≡ true
  early_by k long high = elim (cases_lt time (k * step + size)) [
    | inl below ↦ grind (arith, nat_tests)
    | inr past ↦ let low : k ≤ (time - size) / step = (le-div_iff_mul-le {k = step} {x = k} {y = time - size} above).1 (omega arith) in absurd (omega arith)
  ]

  -- the spans that go on are those from the first on that does
  pub begun_is : spans_begun step size next time ≡ range_with_len (first_begun step size next time) (time / step + 1 - first_begun step size next time)
  begun_is = elim (cases_lt time size) [
    | inl early ↦
        let test : ltb time size ≡ true = grind (arith, nat_tests) in
        rw test (range_all (goes_on step size time) next (time / step + 1 - next) (λ k low. grind (arith, nat_tests)))
    | inr late ↦
        let test : ltb time size ≡ false = grind (arith, nat_tests) in
        let m = (time - size) / step in
        let same : next + (time / step + 1 - next) - max next (m + 1) ≡ time / step + 1 - max next (m + 1) = omega arith in
        rw test (range_from (goes_on step size time) (max next (m + 1)) next (time / step + 1 - next) (omega arith) (λ k low below. late_by k late (omega arith)) (λ k high. early_by k late (omega arith)) ∙ ap (range_with_len (max next (m + 1))) same)
  ]

  -- at most 64 spans begin and are not over
  pub begun_few : 0 < size → FewPerEvent size step → length (spans_begun step size next time) ≤ 64
  begun_few long few =
      let first = first_begun step size next time in
      let count : length (spans_begun step size next time) ≡ time / step + 1 - first = ap length begun_is ∙ length-range_with_len first (time / step + 1 - first) in
      let low : time / step * step ≤ time = div-mul-le_self time step in
      let within : size ≤ 64 * step = elim (cases_lt (64 * step) size) [ inl more ↦ let big : 65 ≤ (size + step - 1) / step = (le-div_iff_mul-le {k = step} {x = 65} {y = size + step - 1} above).1 (omega arith) in absurd (omega arith) | inr fits ↦ fits ] in
      elim (cases_lt (time / step + 1) (first + 65)) [ inl fits ↦ omega arith | inr many ↦ absurd (too_many first many low within refl) ]
    where
      too_many : (first : ℕ) → first + 65 ≤ time / step + 1 → time / step * step ≤ time → size ≤ 64 * step → first ≡ first_begun step size next time → ⊥
      too_many first many low within is = elim (cases_lt time size) [
        | inl early ↦
            let product : 64 * step ≤ time / step * step = mul-le 64 step (time / step) step (omega arith) (omega arith) in
            omega arith
        | inr late ↦
            let test : ltb time size ≡ false = grind (arith, nat_tests) in
            let m = (time - size) / step in
            let at : first ≡ max next (m + 1) = is ∙ rw test refl in
            let product : (m + 65) * step ≤ time / step * step = mul-le (m + 65) step (time / step) step (omega arith) (omega arith) in
            let more : m + 1 ≤ (time - size) / step = (le-div_iff_mul-le {k = step} {x = m + 1} {y = time - size} above).1 (omega arith) in
            omega arith
      ]

-- a span that begins up to a time begins at a multiple of the step that is at most that time
pub begins_by : (step time k : ℕ) → 0 < step → k < time / step + 1 → k * step ≤ time
begins_by step time k above low = (le-div_iff_mul-le {k = step} {x = k} {y = time} above).0 (omega arith)
