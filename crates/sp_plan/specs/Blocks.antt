-- Pairs of one name that stand together among the bound events.
use Rattle.std.specs.Prelude.{◌≡◌, ◌≢◌, ℕ, ◌≤◌, List, [], ◌∷◌, ◌++◌, length, take, drop, filter, ◌==◌, Option, None, IfSome}
use Rattle.std.specs.List.{All, last_or}
use Rattle.sp_plan.specs.declared.event.Event.{Event}
use Rattle.sp_plan.specs.declared.pairs.Pair.{Pair}

-- the name and the event of a pair
abbrev pub seen : Pair → ℕ × Event
seen p = (p.name, p.event)

-- the pairs of a name
abbrev pub named : ℕ → List Pair → List Pair
named name pairs = filter (λ p. p.name == name) pairs

-- the last of them
abbrev pub last_named : ℕ → List Pair → Option Pair
last_named name pairs = last_or None (named name pairs)

-- From the place on, the pairs in front have the name, and the pair before that place has another.
pub record IsBlock (front : List Pair) (name place : ℕ) : Type 0 where
  pub within : place ≤ length front
  pub own : All (λ p. p.name ≡ name) (drop place front)
  pub other : IfSome (last_or None (take place front)) (λ p. p.name ≢ name)

-- Every pair behind the front knows the place where its block begins.
abbrev pub Blocked : List Pair → List Pair → Type 0
Blocked front [] = Unit {0}
Blocked front (p ∷ rest) = IsBlock front p.name p.block × Blocked (front ++ p ∷ []) rest
