-- Which windows open with which event, as events come one after another.
use Rattle.std.specs.Prelude.{ℕ, ◌+◌, ◌-◌, ◌*◌, ◌%◌, ◌/◌, Bool, List, [], ◌∷◌, ◌++◌, ◌==◌, nat_lt, None, unsigned_abs, max, map, filter, if◌then◌else◌}
use Rattle.std.specs.List.{range_with_len}
use Rattle.sp_plan.specs.declared.event.Event.{Event}
use Rattle.sp_plan.specs.declared.plan.Plan.{Plan}
use Rattle.sp_plan.specs.declared.plan.Length.{Length}
use Rattle.sp_plan.specs.declared.plan.Length.TheVariants.{Events, Time}
use Rattle.sp_plan.specs.declared.plan.Opening.{Opening}
use Rattle.sp_plan.specs.declared.plan.Opening.TheVariants.{EveryEvents, EveryTime, When}
use Rattle.sp_plan.specs.Values.{holds}
use Rattle.sp_plan.specs.Windows.{duration}
use Rattle.sp_window.specs.declared.record.Limit.{Limit}
use Rattle.sp_window.specs.declared.record.Limit.TheVariants.{AtNumber, AtTime}
use Rattle.sp_window.specs.declared.record.Record.{Record}
use Rattle.sp_window.specs.Times.{stamp}

-- where a window stops whose first event has this number and this time
abbrev pub limit_from : Length → ℕ → ℕ → Limit
limit_from (Events n) number time = AtNumber (number + n)
limit_from (Time d) number time = AtTime (time + unsigned_abs d)

-- a window that begins with the event of this number
abbrev pub open_at : ℕ → Limit → Record
open_at number limit = record { first = number; limit = limit; end = None }

-- whether the span that begins at this multiple of the step, and has this size, is not over at this time
abbrev pub goes_on : ℕ → ℕ → ℕ → ℕ → Bool
goes_on step size time k = nat_lt time (k * step + size)

-- the spans that begin from that of this number on up to this time, and are not over then
abbrev pub spans_begun : ℕ → ℕ → ℕ → ℕ → List ℕ
spans_begun step size next time = filter (goes_on step size time) (range_with_len next (time / step + 1 - next))

-- the first span from that of number next on that is not over at this time
abbrev pub first_begun : ℕ → ℕ → ℕ → ℕ → ℕ
first_begun step size next time = if nat_lt time size then next else max next ((time - size) / step + 1)

-- the windows that open with an event; spans of time before that of number next have had an event at their beginning or behind it
abbrev pub opening_by : Opening → Length → ℕ → ℕ → Event → List Record
opening_by (EveryEvents s) l number next e = if (number - 1) % s == 0 then open_at number (limit_from l number (stamp e)) ∷ [] else []
opening_by (When p) l number next e = if holds p e [] then open_at number (limit_from l number (stamp e)) ∷ [] else []
opening_by (EveryTime s) l number next e = map (λ k. open_at number (AtTime (k * unsigned_abs s + unsigned_abs (duration l)))) (spans_begun (unsigned_abs s) (unsigned_abs (duration l)) next (stamp e))

-- the span of time that begins after an event
abbrev pub next_span : Opening → Event → ℕ
next_span (EveryEvents s) e = 0
next_span (When p) e = 0
next_span (EveryTime s) e = stamp e / unsigned_abs s + 1

-- the windows that open with events, the first of which has this number
abbrev pub opened_from : Opening → Length → ℕ → ℕ → List Event → List Record
opened_from o l number next [] = []
opened_from o l number next (e ∷ es) = opening_by o l number next e ++ opened_from o l (number + 1) (next_span o e) es

-- the windows that the events of a plan open, each as if no event could close it
abbrev pub opened : Plan → List Event → List Record
opened q events = opened_from q.opening q.length 1 0 events

-- the span of time that begins after the last event
abbrev pub span_after : Opening → ℕ → List Event → ℕ
span_after o next [] = next
span_after o next (e ∷ es) = span_after o (next_span o e) es
