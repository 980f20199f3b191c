-- The cells of a row while it is read, and the bytes of the cell at hand.
use Rattle.std.specs.Prelude.{ℕ, List}

pub record Held : Type 0 where
  pub cells : List (List ℕ)
  pub cell : List ℕ
