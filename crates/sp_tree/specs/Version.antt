-- A version as callers see it.
use Rattle.std.specs.Prelude.{ℕ, List, Option}

-- its id, its parent, its label, and its open groups by rising run
pub record Version : Type 0 where
  pub id : ℕ
  pub parent : Option ℕ
  pub label : List ℕ
  pub groups : List ℕ
