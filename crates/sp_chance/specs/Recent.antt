-- The last pairs, in a ring of 256 places.
use Rattle.std.specs.Prelude.{ℕ, ◌%◌, Bool, List, ◌++◌, take, drop, nat_le, ◌||◌, if◌then◌else◌}

-- the last pairs, and how many were learned since the last turn
pub record Latest : Type 0 where
  pub ring : List (ℕ × ℕ)
  pub since : ℕ

-- what stands in a ring where no place is empty: the oldest is at the place of the next
abbrev pub around : List ℕ → ℕ → List ℕ
around codes place = drop place codes ++ take place codes

-- what stands in a ring: before the first turn only what was learned since, as far as there is room
unfoldable pub ring_of : List ℕ → ℕ → Bool → List ℕ
ring_of codes since full =
    if full || nat_le 256 since then around codes (since % 256) else take since codes
