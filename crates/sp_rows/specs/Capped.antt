-- Numbers that stop growing once they are past the bound.
use Rattle.std.specs.Prelude.{ℕ, ◌+◌, ◌-◌, ◌*◌, min, List}
use Rattle.std.specs.List.{fold}
use Rattle.sp_base.specs.Limits.{past_number_limit}

-- the number with one more digit
abbrev pub with_digit : ℕ → ℕ → ℕ
with_digit n b = n * 10 + (b - 48)

-- a number, or the first past the bound where it is past it
abbrev pub capped : ℕ → ℕ
capped n = min n past_number_limit

-- the number with more digits, or the first past the bound
abbrev pub with_more : ℕ → List ℕ → ℕ
with_more n digits = capped (fold with_digit n digits)
