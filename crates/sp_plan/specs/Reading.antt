-- The runs of a window while its events are read one after another, by their numbers.
use Rattle.std.specs.Prelude.{ℕ, zero, suc, ◌+◌, ◌-◌, List, Option, Some, None, slice_get, if◌then◌else◌}
use Rattle.sp_base.specs.Numbers.{is_among}
use Rattle.sp_plan.specs.declared.event.Event.{Event}
use Rattle.sp_plan.specs.declared.plan.Plan.{Plan}
use Rattle.sp_plan.specs.Runs.{State, fresh, handle}

-- the event of a number, counted from 1, where it is there
abbrev pub event_of : List Event → ℕ → Option Event
event_of events number = slice_get events (number - 1)

-- the runs after an event of that number, where there is one
abbrev pub after_event : Plan → State → ℕ → Option Event → State
after_event q s number None = s
after_event q s number (Some e) = handle q s (number, e)

-- the runs after the event of a number was read, which is passed over where its number is among those to skip
abbrev pub read_one : Plan → List Event → List ℕ → State → ℕ → State
read_one q events skipped s number = if is_among skipped number then s else after_event q s number (event_of events number)

-- the runs after the first n events of a window were read, the first of which has that number
abbrev pub reading : Plan → List Event → List ℕ → ℕ → ℕ → State
reading q events skipped first zero = fresh
reading q events skipped first (suc n) = read_one q events skipped (reading q events skipped first n) (first + n)
