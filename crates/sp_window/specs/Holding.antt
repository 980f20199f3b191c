-- What is held of the windows themselves, and when it holds for a list of events. Callers cite none of it: they see windows through `Stands`.
use Rattle.std.specs.Prelude.{◌≡◌, ◌≤◌, ◌<◌, ℕ, ◌+◌, ◌%◌, Bool, ◌&&◌, ◌||◌, List, length, Some, None, nat_lt, nat_le, map, filter, if◌then◌else◌}
use Rattle.std.specs.List.{last_or}
use Rattle.sp_plan.specs.declared.event.Event.{Event}
use Rattle.sp_plan.specs.declared.plan.Plan.{Plan}
use Rattle.sp_plan.specs.declared.plan.Opening.{Opening}
use Rattle.sp_plan.specs.declared.plan.Opening.TheVariants.{EveryEvents, EveryTime, When}
use Rattle.sp_plan.specs.Windows.{Numbered, numbered, number_or, closed}
use Rattle.sp_window.specs.declared.record.Limit.{Limit}
use Rattle.sp_window.specs.declared.record.Limit.TheVariants.{AtNumber, AtTime}
use Rattle.sp_window.specs.declared.record.Record.{Record}
use Rattle.sp_window.specs.Times.{stamp, last_stamp}
use Rattle.sp_window.specs.Limits.{is_reached}
use Rattle.sp_window.specs.Openings.{opened, span_after}

-- each window opened so far, how many of them are closed, and which opening comes next
pub record Held : Type 0 where
  pub records : List Record
  pub shut : ℕ
  pub next : ℕ

-- whether an event is before a limit
abbrev pub is_below : Limit → Numbered → Bool
is_below (AtNumber number) y = nat_lt y.0 number
is_below (AtTime until) y = nat_lt (stamp y.1) until

-- the last event of a window so far
abbrev pub last_of : List Event → Record → ℕ
last_of events r = number_or r.first (last_or None (filter (λ y. nat_le r.first y.0 && is_below r.limit y) (numbered events)))

-- whether a window is closed
abbrev pub is_shut : List Event → Bool → Record → Bool
is_shut events ended r = ended || is_reached r.limit (length events) (last_stamp events)

-- a window that was opened, as it is after events
abbrev pub record_at : List Event → Bool → Record → Record
record_at events ended r = record r { end = if is_shut events ended r then Some (last_of events r) else None }

-- which opening comes next after events: for a step in events the next place from 0 on that is a multiple of the step, and for
-- a step in time the span that begins after the last event
abbrev pub IsNext : Opening → List Event → ℕ → Type 0
IsNext (EveryEvents s) events next = (next % s ≡ 0) × (length events ≤ next) × (next < length events + s)
IsNext (When p) events next = Unit {0}
IsNext (EveryTime s) events next = next ≡ span_after (EveryTime s) 0 events

-- what is held is what the events come to, and whether input has ended behind them
pub record IsHeld (q : Plan) (events : List Event) (ended : Bool) (h : Held) : Type 0 where
  pub records_are : h.records ≡ map (record_at events ended) (opened q events)
  pub shut_is : h.shut ≡ closed q events ended
  pub next_is : IsNext q.opening events h.next
