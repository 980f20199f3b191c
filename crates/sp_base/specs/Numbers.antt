-- Numbers in rising order.
use Rattle.std.specs.Prelude.{◌≡◌, ℕ, ◌+◌, Bool, List, [], ◌∷◌, ◌==◌, ◌&&◌, nat_le, nat_lt, if◌then◌else◌}
use Rattle.std.specs.List.{list_any, fold}
use Rattle.std.specs.List.Sorted.{IsStrictlyIncreasing}

-- a list of numbers, and how many more it can take in without memory
pub record NumberList : Type 0 where
  pub list : List ℕ
  pub spare : ℕ

-- whether a number is among these
abbrev pub is_among : List ℕ → ℕ → Bool
is_among ns n = list_any (λ m. m == n) ns

-- a rising list with one number more
abbrev pub with_number : List ℕ → ℕ → List ℕ
with_number [] n = n ∷ []
with_number (m ∷ ms) n = if nat_lt n m then n ∷ m ∷ ms else if m == n then m ∷ ms else m ∷ with_number ms n

-- a rising list with these numbers more
abbrev pub with_numbers : List ℕ → List ℕ → List ℕ
with_numbers ms ns = fold with_number ms ns

-- whether a number is one of the `count` from `first` on
abbrev pub is_within : ℕ → ℕ → ℕ → Bool
is_within first count n = nat_le first n && nat_lt n (first + count)

-- Two strictly rising lists with the same numbers are equal.
abbrev pub RisingSame : Type 0
RisingSame = (ms ns : List ℕ) → IsStrictlyIncreasing ms → IsStrictlyIncreasing ns → ((n : ℕ) → is_among ms n ≡ is_among ns n) → ms ≡ ns
