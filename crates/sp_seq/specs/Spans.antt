-- Windows by the places of their events, and what the engine keeps from window to window.
use Rattle.std.specs.Prelude.{◌≡◌, ℕ, ◌-◌, ◌≤◌, Bool, false, List, length, slice_get}
use Rattle.sp_plan.specs.declared.event.Event.{Event}
use Rattle.sp_plan.specs.declared.plan.Plan.{Plan}
use Rattle.sp_plan.specs.declared.found.Match.{Match}
use Rattle.sp_plan.specs.Windows.{windows}
use Rattle.sp_plan.specs.Sequential.{seq, visible}
use Rattle.sp_seq.specs.Marked.{IsMarked}
use Rattle.sp_seq.specs.Unconsumed.{unconsumed}

-- the events of the window of this number, from 1, stand from place first on below end
pub record IsSpan (q : Plan) (events : List Event) (number first end : ℕ) : Type 0 where
  pub ordered : first ≤ end
  pub within : end ≤ length events
  pub visible_is : (consumed : List ℕ) → visible events consumed (slice_get (windows q events false) (number - 1)) ≡ unconsumed consumed events first end

-- behind so many windows the matches are theirs, and the flags say what they consumed
pub record IsSwept (q : Plan) (events : List Event) (count : ℕ) (matches : List Match) (flags : List Bool) : Type 0 where
  pub matches_are : matches ≡ (seq q events count).matches
  pub marked : IsMarked (seq q events count).consumed flags
  pub size : length flags ≡ length events
