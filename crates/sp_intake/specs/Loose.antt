-- The events that the bytes of the input give where they may come out of order, how many came too late, and why they stop.
use Rattle.std.specs.Prelude.{ℕ, ℤ, ◌+◌, Bool, true, List, [], ◌∷◌, ◌++◌, length, is_some, ◌==◌, if◌then◌else◌}
use Rattle.std.specs.List.{fold}
use Rattle.sp_base.specs.Limits.{event_limit}
use Rattle.sp_plan.specs.declared.event.Event.{Event}
use Rattle.sp_plan.specs.declared.plan.Plan.{Plan}
use Rattle.sp_cut.specs.CutRows.{CutRow, row, long_row, open_quote, rows}
use Rattle.sp_rows.specs.Rows.{RowsRead, RowResult, nothing, event, refused, row_result, given_if, time_place_in}
use Rattle.sp_rows.specs.Codes.{code_of}
use Rattle.sp_slack.specs.HeldBack.{is_late, slacked}
use Rattle.sp_slack.specs.declared.late.LateRule.{LateRule}
use Rattle.sp_slack.specs.declared.late.LateRule.TheVariants.{Refuse, Drop}
use Rattle.sp_ports.specs.declared.stop.Failure.TheVariants.{Row, Limit}
use Rattle.sp_ports.specs.Stopping.{is_end}
use Rattle.sp_intake.specs.Reading.{Reading, Way, stop_of, stopped_by, without_row}
use Rattle.sp_intake.specs.Reading as strict

-- how far behind the greatest time before it an event may come, and what becomes of one that comes later
pub record Lateness : Type 0 where
  pub slack : ℤ
  pub rule : LateRule

-- how far the reading has come, its events in the order in which they came, and how many were passed over
pub record Loose : Type 0 where
  pub reading : Reading
  pub late : ℕ

-- nothing was read yet
abbrev pub start : Plan → Loose
start q = record { reading = strict.start q; late = 0 }

-- the same with another reading
abbrev pub reads_on : Loose → Reading → Loose
reads_on r reading = record r { reading = reading }

-- no later row counts, since there are as many events as may be, those passed over among them
abbrev pub is_full : Loose → Bool
is_full r = length r.reading.events + r.late == event_limit

abbrev pub filled : Loose → RowsRead → Loose
filled r so_far = reads_on r (stopped_by (record r.reading { so_far = so_far }) (Limit event_limit))

-- An event that is late makes its row faulty, or is passed over. A faulty row is told before the limit, and one that is passed over counts for it.
abbrev pub with_late : Plan → LateRule → Loose → RowsRead → Loose
with_late q Refuse r so_far = reads_on r (stopped_by r.reading (Row 6 (r.reading.so_far.read + 1) (time_place_in q r.reading.so_far.places)))
with_late q Drop r so_far = if is_full r then filled r so_far else record { reading = record r.reading { so_far = so_far }; late = r.late + 1 }

abbrev pub with_event : Plan → Lateness → Loose → Event → RowsRead → Loose
with_event q l r e so_far =
    if is_late l.slack r.reading.events e then with_late q l.rule r so_far
    else if is_full r then filled r so_far
    else reads_on r (record r.reading { so_far = so_far; events = r.reading.events ++ e ∷ [] })

abbrev pub with_result : Plan → Lateness → Loose → RowResult → Loose
with_result q l r (nothing so_far) = reads_on r (record r.reading { so_far = so_far })
with_result q l r (event e so_far) = with_event q l r e so_far
with_result q l r (refused f) = reads_on r (stopped_by r.reading (Row (code_of f.kind) f.row f.column))

abbrev pub with_row : Plan → Lateness → Loose → CutRow → Loose
with_row q l r (row bytes) = with_result q l r (given_if true (row_result q r.reading.so_far bytes))
with_row q l r long_row = reads_on r (without_row r.reading 8)
with_row q l r open_quote = reads_on r (without_row r.reading 9)

-- one row more, as of a reading in which times may not go back
abbrev pub take_row : Plan → Lateness → Loose → CutRow → Loose
take_row q l r next =
    if is_some r.reading.stopped then r
    else if r.reading.so_far.read == 2097152 then reads_on r (stopped_by r.reading (Limit 2097152))
    else with_row q l r next

-- What the rows of the input give: the events that were kept, and how many were passed over.
abbrev pub loose : Plan → Lateness → List ℕ → Bool → Loose
loose q l bytes ended = fold (take_row q l) (start q) (rows bytes ended)

-- the events that were kept, as a way of reading
abbrev pub kept : Plan → Lateness → Way
kept q l bytes ended = (loose q l bytes ended).reading

-- What is to be given of those that were kept, as a way of reading: all of them, by time, once the input was read to its end.
abbrev pub in_order : Plan → Lateness → Way
in_order q l bytes ended = record (kept q l bytes ended) { events = slacked l.slack (kept q l bytes ended).events (is_end (stop_of (kept q l bytes ended) ended)) }
