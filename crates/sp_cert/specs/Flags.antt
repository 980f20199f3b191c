-- Flags that say which numbers are among some.
use Rattle.std.specs.Prelude.{◌≡◌, ℕ, ◌+◌, ◌<◌, Bool, false, List, length, slice_index_or}
use Rattle.sp_base.specs.Numbers.{is_among}

-- the flag at a place says whether that number, counted from the first one, is among these
abbrev pub AreFlags : ℕ → List ℕ → List Bool → Type 0
AreFlags first numbers flags = (k : ℕ) → k < length flags → slice_index_or flags k false ≡ is_among numbers (first + k)
