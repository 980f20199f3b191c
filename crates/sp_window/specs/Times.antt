-- The times of events, as whole numbers from 0 on.
use Rattle.std.specs.Prelude.{ℕ, List, Option, Some, None, unsigned_abs}
use Rattle.std.specs.List.{last_or}
use Rattle.sp_plan.specs.declared.event.Event.{Event}

-- the time of an event, which is 0 or more
abbrev pub stamp : Event → ℕ
stamp e = unsigned_abs e.time

-- the time of an event, or 0 where there is none
abbrev pub stamp_or_zero : Option Event → ℕ
stamp_or_zero None = 0
stamp_or_zero (Some e) = stamp e

-- the time of the last event, or 0
abbrev pub last_stamp : List Event → ℕ
last_stamp events = stamp_or_zero (last_or None events)
