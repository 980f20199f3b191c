-- Which events open a window, which events it holds, and when it is closed.
use Rattle.std.specs.Prelude.{ℕ, ℤ, pos, ◌+ℤ◌, ◌+◌, ◌-◌, ◌*ℤ◌, ◌<ℤ◌, ◌≤ℤ◌, ◌^◌, ◌<◌, ◌≤◌, ◌%◌, ◌/◌, Bool, true, ◌&&◌, ◌||◌, List, [], length, Option, Some, None, ◌==◌, nat_lt, nat_le, int_le, int_lt, unsigned_abs, filter, map, find}
use Rattle.std.specs.List.{enumerate_from, range_with_len, filter_map, list_any, last_or}
use Rattle.std.specs.Option.{option_map}
use Rattle.sp_base.specs.Limits.{length_limit, step_limit}
use Rattle.sp_plan.specs.declared.event.Event.{Event}
use Rattle.sp_plan.specs.declared.plan.Plan.{Plan}
use Rattle.sp_plan.specs.declared.plan.Length.{Length}
use Rattle.sp_plan.specs.declared.plan.Length.TheVariants.{Events, Time}
use Rattle.sp_plan.specs.declared.plan.Opening.{Opening}
use Rattle.sp_plan.specs.declared.plan.Opening.TheVariants.{EveryEvents, EveryTime, When}
use Rattle.sp_plan.specs.Values.{holds}

-- an event with its number, which is its place in the input from 1
abbrev pub Numbered : Type 0
Numbered = ℕ × Event

-- the events with their numbers
abbrev pub numbered : List Event → List Numbered
numbered events = enumerate_from 1 events

-- a window: the numbers of its first event and of its last so far, and whether no later event can join it
pub record Window : Type 0 where
  pub first : ℕ
  pub last : ℕ
  pub closed : Bool

-- whether y, an event from x on, is in the window that x begins
abbrev pub reaches : Length → Numbered → Numbered → Bool
reaches (Events n) x y = nat_lt y.0 (x.0 + n)
reaches (Time d) x y = int_lt y.1.time (x.1.time +ℤ d)

-- whether no event to come can be in the window that x begins
abbrev pub is_past : Length → List Event → Numbered → Bool
is_past (Events n) events x = nat_le (x.0 + n) (length events + 1)
is_past (Time d) events x = list_any (λ y. int_le (x.1.time +ℤ d) y.1.time) (numbered events)

-- the number of an event, or another number where there is none
abbrev pub number_or : ℕ → Option Numbered → ℕ
number_or n None = n
number_or n (Some x) = x.0

-- the window that x begins
abbrev pub window_from : Length → List Event → Bool → Numbered → Window
window_from length_of events ended x = record {
  first = x.0;
  last = number_or x.0 (last_or None (filter (λ y. nat_le x.0 y.0 && reaches length_of x y) (numbered events)));
  closed = ended || is_past length_of events x;
}

-- the events of a span of time
abbrev pub within : ℤ → ℤ → List Event → List Numbered
within from until events = filter (λ y. int_le from y.1.time && int_lt y.1.time until) (numbered events)

-- the window of a span of time, where an event is in it
abbrev pub window_within : ℤ → ℤ → List Event → Bool → Option Window
window_within from until events ended =
    let own = within from until events in
    let window : Numbered → Window = λ x. record {
      first = x.0;
      last = number_or x.0 (last_or None own);
      closed = ended || list_any (λ y. int_le until y.1.time) (numbered events);
    } in
    option_map window (find (λ _. true) own)

-- the length of a window in time
abbrev pub duration : Length → ℤ
duration (Events n) = pos n
duration (Time d) = d

-- the time of an event, or another where there is none
abbrev pub time_or : ℕ → Option Numbered → ℕ
time_or n None = n
time_or n (Some x) = unsigned_abs x.1.time

-- how many spans of s begin up to the last time
abbrev pub spans : ℕ → List Event → ℕ
spans s events = time_or 0 (last_or None (numbered events)) / s + 1

-- the windows of an opening and a length: one for each event that opens one, and for spans of time one for each in which an event is
abbrev pub windows_by : Opening → Length → List Event → Bool → List Window
windows_by (EveryEvents s) l events ended = map (window_from l events ended) (filter (λ x. (x.0 - 1) % s == 0) (numbered events))
windows_by (When p) l events ended = map (window_from l events ended) (filter (λ x. holds p x.1 []) (numbered events))
windows_by (EveryTime s) l events ended =
    filter_map (λ k. window_within (pos k *ℤ s) (pos k *ℤ s +ℤ duration l) events ended) (range_with_len 0 (spans (unsigned_abs s) events))

-- the windows, in order
abbrev pub windows : Plan → List Event → Bool → List Window
windows q events ended = windows_by q.opening q.length events ended

-- how many windows are closed: they are the first ones
abbrev pub closed : Plan → List Event → Bool → ℕ
closed q events ended = length (filter (λ w. w.closed) (windows q events ended))

-- the events of a window
abbrev pub events_of : List Event → Window → List Numbered
events_of events w = filter (λ x. nat_le w.first x.0 && nat_le x.0 w.last) (numbered events)

-- how many windows hold an event: the length divided by the step, rounded up
abbrev pub windows_per_event : ℕ → ℕ → ℕ
windows_per_event size step = (size + step - 1) / step

-- at most 64 windows hold an event, where the length and the step are numbers of one unit
abbrev pub FewPerEvent : ℕ → ℕ → Type 0
FewPerEvent size step = windows_per_event size step ≤ 64

-- the numbers of a length keep their limits
abbrev pub IsLength : Length → Type 0
IsLength (Events n) = (0 < n) × (n ≤ length_limit)
IsLength (Time d) = (pos 0 <ℤ d) × (d ≤ℤ pos (10 ^ 15))

-- a step in events keeps its limits
abbrev pub IsStepInEvents : Length → ℕ → Type 0
IsStepInEvents (Events n) s = (0 < s) × (s ≤ step_limit) × FewPerEvent n s
IsStepInEvents (Time d) s = (0 < s) × (s ≤ step_limit)

-- a step in time keeps its limits, and goes with a length in time
abbrev pub IsStepInTime : Length → ℤ → Type 0
IsStepInTime (Events n) s = ⊥
IsStepInTime (Time d) s = (pos 0 <ℤ s) × (s ≤ℤ pos (10 ^ 15)) × FewPerEvent (unsigned_abs d) (unsigned_abs s)

-- the numbers of an opening keep their limits
abbrev pub IsOpening : Length → Opening → Type 0
IsOpening l (EveryEvents s) = IsStepInEvents l s
IsOpening l (EveryTime s) = IsStepInTime l s
IsOpening l (When p) = Unit {0}

-- the numbers of a plan's windows keep their limits
pub record IsWindowed (q : Plan) : Type 0 where
  pub length_is : IsLength q.length
  pub opening_is : IsOpening q.length q.opening
