-- No number that a cell gives is past 10^15.
use Rattle.std.proofs.Common.{◌≡◌, ℕ, zero, suc, ℤ, pos, neg_ℤ, ◌≤◌, Bool, true, false, ◌&&◌, List, [], ◌∷◌, ◌++◌, drop, Option, Some, None, refl, arith}
use Rattle.std.specs.Prelude.{nat_le, unsigned_abs, ◌==◌, if◌then◌else◌}
use Rattle.std.specs.List.{list_all, slice_split}
use Rattle.std.specs.Option.{option_map}
use Rattle.std.proofs.lemmas.Bool.Decides.{nat_tests}
use Rattle.sp_base.specs.Limits.{number_limit}
use Rattle.sp_rows.specs.Numbers.{decimals_to, digits_value, are_digits, within_bound, units_of, unsigned, signed, number_of, trimmed}

-- the units, where there are some, are within the bound
abbrev AreWithin : Option ℕ → Type 0
AreWithin (Some n) = n ≤ number_limit
AreWithin None = Unit {0}

-- the same of units with a sign
abbrev pub AreSmall : Option ℤ → Type 0
AreSmall (Some n) = unsigned_abs n ≤ number_limit
AreSmall None = Unit {0}

within_choice : (b : Bool) (o : Option ℕ) → (b ≡ true → AreWithin o) → AreWithin (if b then o else None)
within_choice true o inside = inside refl
within_choice false o inside = tt

bound_kept : (n : ℕ) → AreWithin (within_bound n)
bound_kept n = within_choice (nat_le n number_limit) (Some n) (λ is. grind (arith, nat_tests))

units_within : (scale : ℕ) (parts : List (List ℕ)) → AreWithin (units_of scale parts)
units_within scale [] = tt
units_within scale (whole ∷ []) =
    let n = digits_value (whole ++ decimals_to scale []) in
    within_choice (are_digits whole) (within_bound n) (λ _. bound_kept n)
units_within scale (whole ∷ decimals ∷ []) =
    let n = digits_value (whole ++ decimals_to scale decimals) in
    within_choice (are_digits whole && are_digits decimals && list_all (λ b. b == 48) (drop scale decimals)) (within_bound n) (λ _. bound_kept n)
units_within scale (whole ∷ decimals ∷ more ∷ parts) = tt

plus_small : (o : Option ℕ) → AreWithin o → AreSmall (option_map pos o)
plus_small (Some n) within = within
plus_small None within = tt

minus_small : (o : Option ℕ) → AreWithin o → AreSmall (option_map (λ n. neg_ℤ (pos n)) o)
minus_small (Some zero) within = within
minus_small (Some (suc n)) within = within
minus_small None within = tt

small_choice : (b : Bool) (o p : Option ℤ) → AreSmall o → AreSmall p → AreSmall (if b then o else p)
small_choice true o p first second = first
small_choice false o p first second = second

signed_small : (scale : ℕ) (digits : List ℕ) → AreSmall (signed scale digits)
signed_small scale [] = tt
signed_small scale (b ∷ bs) =
    let rest : AreWithin (unsigned scale bs) = units_within scale (slice_split (λ b. b == 46) bs) in
    let whole : AreWithin (unsigned scale (b ∷ bs)) = units_within scale (slice_split (λ b. b == 46) (b ∷ bs)) in
    small_choice (b == 43) (option_map pos (unsigned scale bs)) (if b == 45 then option_map (λ n. neg_ℤ (pos n)) (unsigned scale bs) else option_map pos (unsigned scale (b ∷ bs)))
    (plus_small (unsigned scale bs) rest)
    (small_choice (b == 45) (option_map (λ n. neg_ℤ (pos n)) (unsigned scale bs)) (option_map pos (unsigned scale (b ∷ bs)))
    (minus_small (unsigned scale bs) rest)
    (plus_small (unsigned scale (b ∷ bs)) whole))

pub number_small : (scale : ℕ) (cell : List ℕ) → AreSmall (number_of scale cell)
number_small scale cell = signed_small scale (trimmed cell)
