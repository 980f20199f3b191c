-- Which events are held back, and which are to be given: sorted by time, those of one time as they arrived.
use Rattle.std.specs.Prelude.{ℤ, ◌-ℤ◌, Bool, true, false, List, [], ◌∷◌, ◌++◌, ◌≡◌, Option, Some, None, int_lt, int_le, if◌then◌else◌}
use Rattle.std.specs.Int.{int_max}
use Rattle.std.specs.List.{fold, filter}
use Rattle.sp_plan.specs.declared.event.Event.{Event}
use Rattle.sp_slack.specs.declared.waiting.First.{First}

-- sorted events with one more, which stands behind all that are not later
abbrev pub put : List Event → Event → List Event
put [] e = e ∷ []
put (x ∷ xs) e = if int_lt e.time x.time then e ∷ x ∷ xs else x ∷ put xs e

-- the events by time, those of one time as they arrived
abbrev pub sorted : List Event → List Event
sorted events = fold put [] events

-- the greatest time with that of an event more
abbrev pub with_time : Option ℤ → Event → Option ℤ
with_time None e = Some e.time
with_time (Some t) e = Some (int_max t e.time)

-- the greatest time, where there is an event
abbrev pub greatest : List Event → Option ℤ
greatest events = fold with_time None events

-- so much before a time
abbrev pub before : ℤ → Option ℤ → Option ℤ
before slack None = None
before slack (Some t) = Some (t -ℤ slack)

-- the least time that may still come, where there was an event: the slack before the greatest
abbrev pub least : ℤ → List Event → Option ℤ
least slack events = before slack (greatest events)

-- the event is before this time
abbrev pub is_before : Option ℤ → Event → Bool
is_before None e = false
is_before (Some t) e = int_lt e.time t

-- and the event is at this time at most
abbrev pub is_up_to : Option ℤ → Event → Bool
is_up_to None e = false
is_up_to (Some t) e = int_le e.time t

-- an event that comes behind these is late
abbrev pub is_late : ℤ → List Event → Event → Bool
is_late slack events e = is_before (least slack events) e

-- What is to be given of events of which none was late: while more may come, only those up to the least time that may still come.
abbrev pub slacked : ℤ → List Event → Bool → List Event
slacked slack events true = sorted events
slacked slack events false = filter (is_up_to (least slack events)) (sorted events)

-- of an event in a line and one behind it the first, the one in the line where the test holds
abbrev pub first_of : Bool → Event → Event → First
first_of true x y = record { time = x.time; in_line = true }
first_of false x y = record { time = y.time; in_line = false }

-- of events that are held in a line and behind it, the time of the first, and whether it stands in the line
abbrev pub first_held : List Event → List Event → Option First
first_held [] [] = None
first_held (x ∷ line) [] = Some (record { time = x.time; in_line = true })
first_held [] (y ∷ behind) = Some (record { time = y.time; in_line = false })
first_held (x ∷ line) (y ∷ behind) = Some (first_of (int_le x.time y.time) x y)

-- none of the events that come behind these is late
abbrev pub AreTimely : ℤ → List Event → List Event → Type 0
AreTimely slack events [] = Unit {0}
AreTimely slack events (e ∷ more) = (is_late slack events e ≡ false) × AreTimely slack (events ++ e ∷ []) more
