-- The pairs of a run, kept as two lists: names with numbers, and names with events.
use Rattle.std.specs.Prelude.{◌≡◌, ℕ, ◌<◌, List, [], ◌∷◌, map}
use Rattle.std.specs.List.{AllPairs}
use Rattle.sp_plan.specs.declared.event.Event.{Event}
use Rattle.sp_plan.specs.Bounds.{AllSmall}
use Rattle.sp_plan.specs.Runs.{Run}

-- the run that the two lists make
abbrev pub joined : List (ℕ × ℕ) → List (ℕ × Event) → Run
joined [] events = []
joined (pair ∷ pairs) [] = []
joined (pair ∷ pairs) (bound ∷ events) = (record { name = pair.0; number = pair.1; event = bound.1 }) ∷ joined pairs events

-- The two lists have the same names, the numbers rise, and the events are small.
pub record AreJoined (pairs : List (ℕ × ℕ)) (events : List (ℕ × Event)) : Type 0 where
  pub same_names : map (λ pair. pair.0) pairs ≡ map (λ bound. bound.0) events
  pub rising : AllPairs (λ m n. m < n) (map (λ pair. pair.1) pairs)
  pub small : AllSmall events
