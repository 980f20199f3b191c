-- Cells that write numbers.
use Rattle.std.specs.Prelude.{ℕ, ℤ, pos, neg_ℤ, ◌+◌, ◌-◌, ◌*◌, Bool, ◌&&◌, ◌||◌, List, [], ◌∷◌, ◌++◌, length, take, drop, reverse, replicate, Option, Some, None, ◌==◌, nat_lt, nat_le, if◌then◌else◌}
use Rattle.std.specs.List.{fold, list_all, slice_split, prefix_len}
use Rattle.std.specs.Option.{option_map}
use Rattle.sp_base.specs.Limits.{number_limit}

abbrev pub is_blank : ℕ → Bool
is_blank b = b == 32 || b == 9

-- the cell without the blanks and tabs at its start
abbrev pub without_front : List ℕ → List ℕ
without_front cell = drop (prefix_len is_blank cell) cell

-- the cell without the blanks and tabs round it
abbrev pub trimmed : List ℕ → List ℕ
trimmed cell = reverse (without_front (reverse (without_front cell)))

abbrev pub is_digit : ℕ → Bool
is_digit b = nat_le 48 b && nat_le b 57

-- the number that digits write
abbrev pub digits_value : List ℕ → ℕ
digits_value digits = fold (λ n b. n * 10 + (b - 48)) 0 digits

-- one digit or more
abbrev pub are_digits : List ℕ → Bool
are_digits digits = nat_lt 0 (length digits) && list_all is_digit digits

-- as many decimals as the scale has, with zeros for those that aren't written
abbrev pub decimals_to : ℕ → List ℕ → List ℕ
decimals_to scale decimals = take scale (decimals ++ replicate scale 48)

-- at most 10 to the power of 15
abbrev pub within_bound : ℕ → Option ℕ
within_bound n = if nat_le n number_limit then Some n else None

-- the units of a number of this scale that has these digits and decimals; decimals past the scale must be zeros
abbrev pub units_of : ℕ → List (List ℕ) → Option ℕ
units_of scale [] = None
units_of scale (whole ∷ []) =
    if are_digits whole then within_bound (digits_value (whole ++ decimals_to scale [])) else None
units_of scale (whole ∷ decimals ∷ []) =
    if are_digits whole && are_digits decimals && list_all (λ b. b == 48) (drop scale decimals)
    then within_bound (digits_value (whole ++ decimals_to scale decimals))
    else None
units_of scale (whole ∷ decimals ∷ more ∷ parts) = None

-- the units without a sign before them
abbrev pub unsigned : ℕ → List ℕ → Option ℕ
unsigned scale digits = units_of scale (slice_split (λ b. b == 46) digits)

-- the units that a trimmed cell writes
abbrev pub signed : ℕ → List ℕ → Option ℤ
signed scale [] = None
signed scale (b ∷ bs) =
    if b == 43 then option_map pos (unsigned scale bs)
    else if b == 45 then option_map (λ n. neg_ℤ (pos n)) (unsigned scale bs)
    else option_map pos (unsigned scale (b ∷ bs))

-- the units of this scale that a cell writes, None where it writes no such number
abbrev pub number_of : ℕ → List ℕ → Option ℤ
number_of scale cell = signed scale (trimmed cell)
