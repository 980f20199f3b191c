-- What counts for a run next.
use Rattle.std.specs.Prelude.{◌≡◌, ℕ, ◌+◌, ◌<◌, ◌≤◌, ◌⊎◌, List, true, not, None, drop, length, find}
use Rattle.std.specs.List.{All, last_or}
use Rattle.std.specs.Option.{option_to_list}
use Rattle.sp_plan.specs.declared.plan.Element.{Element}
use Rattle.sp_plan.specs.declared.plan.Element.TheVariants.{One, Plus, Set, Never}
use Rattle.sp_plan.specs.declared.plan.Plan.{Plan}
use Rattle.sp_plan.specs.Masks.{has}
use Rattle.sp_plan.specs.Runs.{Run, again, guards, is_filled, leading, wanted}
use Rattle.sp_scan.specs.declared.run.Ahead.{Ahead}
use Rattle.sp_scan.specs.declared.run.Run as own

-- the names of an element are below 32
abbrev pub IsNamed : Element → Type 0
IsNamed (One name) = name < 32
IsNamed (Plus name) = name < 32
IsNamed (Set first count) = (first + count ≤ 32) ⊎ (count ≡ 0)
IsNamed (Never name) = name < 32

-- a mask keeps the names that another has
abbrev pub Keeps : ℕ → ℕ → Type 0
Keeps old new = (name : ℕ) → has old name ≡ true → has new name ≡ true

-- all of the names are among those of a mask
abbrev pub AreIn : ℕ → List ℕ → Type 0
AreIn mask names = All (λ name. has mask name ≡ true) names

-- what is kept of a run tells the first element that it hasn't filled, its last name where that may be bound again, where the names
-- begin that guard it, and those that count for it next: among them are all that it may take next and all that guard it
pub record IsAhead (q : Plan) (r : Run) (ahead : Ahead) : Type 0 where
  pub element_is : ahead.element ≡ find (λ element. not (is_filled r element)) q.elements
  pub again_is : option_to_list ahead.again ≡ again q.elements (last_or None r)
  pub guards_are : leading (drop ahead.behind q.elements) ≡ guards q r
  pub within : ahead.behind ≤ length q.elements
  pub wanted_in : AreIn ahead.names (wanted q r)
  pub guards_in : AreIn ahead.names (guards q r)

-- What is kept of a run is so, and its numbers are below the next one.
pub record IsReady (q : Plan) (next : ℕ) (run : own.Run) : Type 0 where
  pub ahead_is : IsAhead q run.pairs run.ahead
  pub below : All (λ pair. pair.number < next) run.pairs
