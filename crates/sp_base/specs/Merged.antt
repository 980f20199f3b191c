-- Two rising lists in one.
use Rattle.std.specs.Prelude.{◌≡◌, ℕ, List, ◌||◌}
use Rattle.std.specs.List.Sorted.{IsStrictlyIncreasing}
use Rattle.sp_base.specs.Numbers.{is_among}

-- the list rises strictly and has the numbers of both
pub record IsMerged (ones others list : List ℕ) : Type 0 where
  pub rising : IsStrictlyIncreasing list
  pub members : (n : ℕ) → is_among list n ≡ (is_among ones n || is_among others n)
