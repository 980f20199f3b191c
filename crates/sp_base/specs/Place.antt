-- Where a number belongs in a rising list.
use Rattle.std.specs.Prelude.{ℕ, ◌<◌, ◌≤◌, List, length, take, drop, All}

-- all numbers in front of the place are below this one, and no other is
pub record IsPlace (n : ℕ) (list : List ℕ) (at : ℕ) : Type 0 where
  pub within : at ≤ length list
  pub below : All (λ m. m < n) (take at list)
  pub above : All (λ m. n ≤ m) (drop at list)
