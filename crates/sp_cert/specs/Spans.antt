-- The windows that a run or a check goes through.
use Rattle.std.specs.Prelude.{◌≡◌, ◌≤◌, ℕ, ◌+◌, List, length}
use Rattle.sp_plan.specs.declared.event.Event.{Event}
use Rattle.sp_plan.specs.declared.plan.Plan.{Plan}
use Rattle.sp_plan.specs.Compiled.{IsCompiled}
use Rattle.sp_plan.specs.WindowNumbers.{first, size}
use Rattle.sp_window.specs.Standing.{Kept, Stands}

-- The windows are those of these events, by a compiled plan.
pub record AreWindowsOf (q : Plan) (events : List Event) (windows : Kept) : Type 0 where
  pub compiled : IsCompiled q
  pub plan_is : windows.plan ≡ q
  pub stands : Stands windows events windows.ended

-- The window of that number has the events from the first to the last.
pub record IsSpan (q : Plan) (events : List Event) (number from until : ℕ) : Type 0 where
  pub first_is : from ≡ first q events number
  pub last_is : until + 1 ≡ first q events number + size q events number
  pub low : 1 ≤ from
  pub some : from ≤ until
  pub within : until ≤ length events
