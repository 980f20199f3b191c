-- Digits read one by one, with zeros for the decimals that aren't written.
use Rattle.std.proofs.Common.{◌≡◌, inl, inr, ℕ, ◌+◌, ◌-◌, ◌<◌, List, [], ◌∷◌, ◌++◌, length, get_or, take, replicate, refl, sym, ◌∙◌, ap, arith, length-append, fold}
use Rattle.std.proofs.lemmas.Grind.{common_steps}
use Rattle.std.proofs.lemmas.Bool.{cases_lt}
use Rattle.std.proofs.lemmas.Bool.Decides.{nat_tests}
use Rattle.std.proofs.lemmas.List.{get_or-take, get_or-append_right, get_or_append_left, get_or-replicate, get_or_past, length-replicate, length-take}
use Rattle.std.proofs.lemmas.List.Sums.{fold-append}
use Rattle.sp_rows.specs.Capped.{with_digit, capped, with_more}
use Rattle.sp_rows.specs.Numbers.{decimals_to, within_bound, digits_value}

-- a decimal of as many as the scale has
pub scaled_decimal : (scale : ℕ) (decimals : List ℕ) (i d : ℕ) → i < scale → get_or (decimals_to scale decimals) i d ≡ get_or decimals i 48
scaled_decimal scale decimals i d inside =
    get_or-take scale (decimals ++ replicate scale 48) i d inside
    ∙ elim (cases_lt i (length decimals)) [
      | inl written ↦ get_or_append_left decimals (replicate scale 48) d i written ∙ grind (arith, common_steps)
      | inr past ↦
          get_or-append_right decimals (replicate scale 48) (length decimals) i d refl past
          ∙ get_or-replicate scale (i - length decimals) 48 d (omega arith)
          ∙ sym (get_or_past decimals i 48 past)
    ]

-- so many decimals as the scale has
pub decimals_count : (scale : ℕ) (decimals : List ℕ) → length (decimals_to scale decimals) ≡ scale
decimals_count scale decimals = length-take scale (decimals ++ replicate scale 48) ∙ omega (arith, length-append decimals (replicate scale 48), length-replicate {A = ℕ} scale 48)

-- one more digit is taken in
pub one_more : (n : ℕ) (digits : List ℕ) (i value digit next : ℕ) → i < length digits → value ≡ with_more n (take i digits) → digit ≡ get_or digits i 0
    → next ≡ capped (with_digit value digit) → next ≡ with_more n (take (i + 1) digits)
one_more n digits i value digit next inside so_far is after = grind (arith, common_steps)

-- it makes no difference whether a number past the bound stops growing before more digits come
pub capped_before : (n : ℕ) (digits : List ℕ) → with_more (capped n) digits ≡ with_more n digits
capped_before n [] = omega arith
capped_before n (d ∷ ds) =
    let same : capped (with_digit (capped n) d) ≡ capped (with_digit n d) = omega arith in
    sym (capped_before (with_digit (capped n) d) ds) ∙ ap (λ (m : ℕ). with_more m ds) same ∙ capped_before (with_digit n d) ds

-- a number is within the bound whether or not it stopped growing past it
pub bound_of_capped : (n : ℕ) → within_bound (capped n) ≡ within_bound n
bound_of_capped n = grind (arith, nat_tests)

-- what is written before the decimals and behind, one after the other
pub in_two : (whole decimals : List ℕ) → within_bound (with_more (with_more 0 whole) decimals) ≡ within_bound (digits_value (whole ++ decimals))
in_two whole decimals =
    ap within_bound (capped_before (fold with_digit 0 whole) decimals)
    ∙ bound_of_capped (fold with_digit (fold with_digit 0 whole) decimals)
    ∙ ap within_bound (sym (fold-append with_digit 0 whole decimals))
