-- What held sides come to for many runs, kept beside each other.
use Rattle.std.specs.Prelude.{◌≡◌, ℕ, ℤ, ◌+◌, ◌≤◌, ◌≤ℤ◌, List, length, map, take, drop}
use Rattle.std.specs.List.{All}
use Rattle.sp_plan.specs.declared.plan.Expr.{Expr}
use Rattle.sp_plan.specs.declared.plan.Pred.{Pred, Always, Test, And', Or', Not'}
use Rattle.sp_plan.specs.Held.{held_column, held_of, held_sides, sides}
use Rattle.sp_plan.specs.Values.{BoundEvents}

-- The numbers are at most 64, and lie between these two.
pub record Between (values : List ℤ) (least greatest : ℤ) : Type 0 where
  pub few : length values ≤ 64
  pub above : All (λ n. least ≤ℤ n) values
  pub under : All (λ n. n ≤ℤ greatest) values

-- From a place on the columns are those of these held sides, for each of these runs.
abbrev pub AreFrom : List (List ℤ) → ℕ → List BoundEvents → List Expr → Type 0
AreFrom columns next bounds held = take (length held) (drop next columns) ≡ map (held_column bounds) held

-- So of the comparisons of a predicate, each from the place at which the walk comes to it.
abbrev pub AreHeldFrom : List (List ℤ) → ℕ → List BoundEvents → Pred → Type 0
AreHeldFrom columns next bounds Always = Unit {0}
AreHeldFrom columns next bounds (Test by left right) = AreFrom columns next bounds (held_of (sides left right) left right)
AreHeldFrom columns next bounds (And' p left q right) = AreHeldFrom columns next bounds right × AreHeldFrom columns (next + length (held_sides right)) bounds left
AreHeldFrom columns next bounds (Or' p left q right) = AreHeldFrom columns next bounds right × AreHeldFrom columns (next + length (held_sides right)) bounds left
AreHeldFrom columns next bounds (Not' p inner) = AreHeldFrom columns next bounds inner
