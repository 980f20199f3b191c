-- How many of the first items hold.
use Rattle.std.specs.Prelude.{◌≡◌, ◌≤◌, ℕ, List, length, take, Some, slice_get}
use Rattle.std.specs.List.{All}

-- So many items hold from the first on, and the next one, where there is one, doesn't.
pub record IsLeading {X : Type 0} (P : X → Type 0) (items : List X) (n : ℕ) : Type 0 where
  pub within : n ≤ length items
  pub all : All P (take n items)
  pub stops : (x : X) → slice_get items n ≡ Some x → ¬ P x
