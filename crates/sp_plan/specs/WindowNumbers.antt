-- Windows by their numbers, and the lists of events that they are asked for.
use Rattle.std.specs.Prelude.{ℕ, ◌+◌, ◌-◌, ◌==◌, Bool, false, List, length, Option, Some, None, slice_get, if◌then◌else◌}
use Rattle.sp_plan.specs.declared.event.Event.{Event}
use Rattle.sp_plan.specs.declared.plan.Plan.{Plan}
use Rattle.sp_plan.specs.Windows.{Window, windows}
use Rattle.sp_plan.specs.Events.{AllFit, NeverGoesBack}

-- the events fit the plan, and their times never go back
abbrev pub Good : Plan → List Event → Type 0
Good q events = AllFit q events × NeverGoesBack events

-- how many windows the events have opened
abbrev pub count : Plan → List Event → ℕ
count q events = length (windows q events false)

-- the window of a number, which begins at 1
abbrev pub numbered_window : Plan → List Event → Bool → ℕ → Option Window
numbered_window q events ended number = if number == 0 then None else slice_get (windows q events ended) (number - 1)

-- the number of a window's first event, or 0 where there is no window
abbrev pub first_of : Option Window → ℕ
first_of None = 0
first_of (Some w) = w.first

-- how many events a window has, or 0 where there is none
abbrev pub size_of : Option Window → ℕ
size_of None = 0
size_of (Some w) = w.last + 1 - w.first

-- the number of the first event of window w, counted from 1
abbrev pub first : Plan → List Event → ℕ → ℕ
first q events w = first_of (numbered_window q events false w)

-- how many of the events window w has
abbrev pub size : Plan → List Event → ℕ → ℕ
size q events w = size_of (numbered_window q events false w)
