-- Which opening comes next, by numbers alone.
use Rattle.std.specs.Prelude.{◌≡◌, ◌≤◌, ◌<◌, ℕ, ◌+◌, ◌%◌, ◌==◌, if◌then◌else◌}
use Rattle.sp_plan.specs.declared.event.Event.{Event}
use Rattle.sp_plan.specs.declared.plan.Opening.{Opening}
use Rattle.sp_plan.specs.declared.plan.Opening.TheVariants.{EveryEvents, EveryTime, When}
use Rattle.sp_window.specs.Openings.{next_span}

-- for a step in events: the next opening is the first place from that of this number on that is a multiple of the step
abbrev pub IsAhead : Opening → ℕ → ℕ → Type 0
IsAhead (EveryEvents s) number next = (next % s ≡ 0) × (number ≤ next + 1) × (next + 1 < number + s)
IsAhead (When p) number next = Unit {0}
IsAhead (EveryTime s) number next = Unit {0}

-- the next opening after the event of this number
abbrev pub next_after : Opening → ℕ → ℕ → Event → ℕ
next_after (EveryEvents s) number next e = if number == next + 1 then next + s else next
next_after (When p) number next e = next
next_after (EveryTime s) number next e = next_span (EveryTime s) e
