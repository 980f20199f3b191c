-- Which matches a plan can have, and which text is the line of one.
use Rattle.std.specs.Prelude.{◌≡◌, ◌≢◌, ℕ, ◌<◌, ◌^◌, List, [], map}
use Rattle.std.specs.List.{All}
use Rattle.std.specs.List.Sorted.{IsStrictlyIncreasing}
use Rattle.sp_plan.specs.declared.plan.Plan.{Plan}
use Rattle.sp_plan.specs.declared.found.Match.{Match}
use Rattle.sp_plan.specs.Lines.{line}
use Rattle.sp_plan.specs.Runs.{bound_names}

-- Each name of the plan that isn't negated is bound once, in order, to at least one event.
pub record BindsNames (q : Plan) (bound : List (ℕ × List ℕ)) : Type 0 where
  pub names : map (λ pair. pair.0) bound ≡ bound_names q
  pub each : All (λ pair. pair.1 ≢ []) bound

-- The match binds each name of the plan that isn't negated once, in order, to at least one event.
abbrev pub Binds : Plan → Match → Type 0
Binds q m = BindsNames q m.bound

-- Numbers of events rise strictly and are below 2^32.
pub record ArePlaces (ns : List ℕ) : Type 0 where
  pub rising : IsStrictlyIncreasing ns
  pub small : All (λ n. n < 2 ^ 32) ns

-- The match is one that the program's types hold: numbers within 32 bits, its own within 64, those of names within 8.
pub record IsHeld (m : Match) : Type 0 where
  pub window : m.window < 2 ^ 32
  pub number : m.number < 2 ^ 64
  pub names : All (λ pair. pair.0 < 2 ^ 8) m.bound
  pub bound : All (λ pair. ArePlaces pair.1) m.bound
  pub used : ArePlaces m.used

-- The text is the line of the match, which is one of the plan's.
pub record IsLine (q : Plan) (m : Match) (text : List ℕ) : Type 0 where
  pub held : IsHeld m
  pub binds : Binds q m
  pub is : text ≡ line q m

-- A text is the line of at most one match.
abbrev pub OneMatch : Type 0
OneMatch = (q : Plan) (text : List ℕ) (m other : Match) → IsLine q m text → IsLine q other text → m ≡ other
