-- One number more has its flag set.
use Rattle.std.proofs.Common.{◌≡◌, inl, inr, ℕ, ◌+◌, ◌-◌, ◌<◌, ◌≤◌, Bool, true, false, ◌||◌, List, [], ◌∷◌, ◌++◌, length, get_or, set, take, sym, ◌∙◌, ap, arith, append_assoc, get_or-set_same, get_or-set_other, length-set}
use Rattle.std.specs.Prelude.{◌≢◌, ◌==◌}
use Rattle.std.proofs.lemmas.Bool.{cases_eq}
use Rattle.std.proofs.lemmas.Bool.Decides.{nat_tests}
use Rattle.std.proofs.lemmas.List.{take_more}
use Rattle.sp_base.specs.Numbers.{is_among}
use Rattle.sp_base.proofs.Rising.{has_append}
use Rattle.sp_cert.specs.Flags.{AreFlags}

module _ (first : ℕ) (before numbers : List ℕ) (flags : List Bool) (i : ℕ) (within : i < length numbers) (are : AreFlags first (before ++ take i numbers) flags) where
  abbrev next : ℕ
  next = get_or numbers i 0

  more : (k : ℕ) → is_among (before ++ take (i + 1) numbers) k ≡ (is_among (before ++ take i numbers) k || (next == k || false))
  more k =
      let one : before ++ take (i + 1) numbers ≡ (before ++ take i numbers) ++ next ∷ [] = ap (λ (l : List ℕ). before ++ l) (take_more numbers i 0 within) ∙ sym (append_assoc before (take i numbers) (next ∷ [])) in
      ap (λ l. is_among l k) one ∙ has_append (before ++ take i numbers) (next ∷ []) k

  -- the flag of the next number is set
  pub flag_set : first ≤ next → next - first < length flags → AreFlags first (before ++ take (i + 1) numbers) (set flags (next - first) true)
  flag_set low room k below =
      let place : ℕ = next - first in
      let old : k < length flags = omega (arith, length-set flags place true) in
      let now = more (first + k) in
      elim (cases_eq k place) [
        | inl here ↦
            let is : get_or (set flags place true) k false ≡ true = rw here (get_or-set_same flags place true false room) in
            let at : next ≡ first + k = omega arith in
            grind (arith, nat_tests)
        | inr other ↦
            let is : get_or (set flags place true) k false ≡ get_or flags k false = get_or-set_other flags place k true false other in
            let was = are k old in
            let apart : next ≢ first + k = λ same. other (omega arith) in
            grind (arith, nat_tests)
      ]

  -- the next number has no flag
  pub flag_none : (first ≤ next → length flags ≤ next - first) → AreFlags first (before ++ take (i + 1) numbers) flags
  flag_none past k below =
      let now = more (first + k) in
      let was = are k below in
      let apart : next ≢ first + k = λ same. (let far = past (omega arith) in omega arith) in
      grind (arith, nat_tests)
