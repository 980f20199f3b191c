-- The events that the bytes of the input give, and why they stop.
use Rattle.std.specs.Prelude.{ℕ, ◌+◌, Bool, List, [], ◌∷◌, ◌++◌, length, Option, Some, None, not, is_some, ◌==◌, if◌then◌else◌}
use Rattle.std.specs.List.{fold}
use Rattle.sp_base.specs.Limits.{event_limit}
use Rattle.sp_plan.specs.declared.event.Event.{Event}
use Rattle.sp_plan.specs.declared.plan.Plan.{Plan}
use Rattle.sp_cut.specs.CutRows.{CutRow, row, long_row, open_quote, rows}
use Rattle.sp_rows.specs.Codes.{code_of}
use Rattle.sp_rows.specs.Rows.{RowsRead, RowResult, nothing, event, refused, row_result}
use Rattle.sp_rows.specs.Rows as row_states
use Rattle.sp_ports.specs.declared.stop.Stop.{Stop}
use Rattle.sp_ports.specs.declared.stop.Stop.TheVariants.{End, Failed, Open}
use Rattle.sp_ports.specs.declared.stop.Failure.{Failure}
use Rattle.sp_ports.specs.declared.stop.Failure.TheVariants.{Row, Limit}

-- how far the reading has come: what the rows were read to, the events, and why no more rows count, where none do
pub record Reading : Type 0 where
  pub so_far : RowsRead
  pub events : List Event
  pub stopped : Option Failure

-- nothing was read yet
abbrev pub start : Plan → Reading
start q = record { so_far = row_states.start q; events = []; stopped = None }

-- no later row counts
abbrev pub stopped_by : Reading → Failure → Reading
stopped_by r failure = record r { stopped = Some failure }

-- the row after those that were read has no cells, with this code
abbrev pub without_row : Reading → ℕ → Reading
without_row r code = stopped_by r (Row code (r.so_far.read + 1) 0)

-- an event is held against the limit of events
abbrev pub with_event : Reading → Event → RowsRead → Reading
with_event r e so_far =
    if length r.events == event_limit then record r { so_far = so_far; stopped = Some (Limit event_limit) }
    else record r { so_far = so_far; events = r.events ++ e ∷ [] }

abbrev pub with_result : Reading → RowResult → Reading
with_result r (nothing so_far) = record r { so_far = so_far }
with_result r (event e so_far) = with_event r e so_far
with_result r (refused f) = stopped_by r (Row (code_of f.kind) f.row f.column)

abbrev pub with_row : Plan → Reading → CutRow → Reading
with_row q r (row bytes) = with_result r (row_result q r.so_far bytes)
with_row q r long_row = without_row r 8
with_row q r open_quote = without_row r 9

-- One row more: it is held against the limit of rows, and then read. After the first failure no row counts.
abbrev pub take_row : Plan → Reading → CutRow → Reading
take_row q r next =
    if is_some r.stopped then r
    else if r.so_far.read == 2097152 then stopped_by r (Limit 2097152)
    else with_row q r next

-- what the rows of the input give
abbrev pub read : Plan → List ℕ → Bool → Reading
read q bytes ended = fold (take_row q) (start q) (rows bytes ended)

abbrev pub end_stop : Option (List ℕ) → Stop
end_stop None = Failed (Row 1 0 0)
end_stop (Some places) = End

abbrev pub stop_or : Reading → Bool → Option Failure → Stop
stop_or r ended (Some failure) = Failed failure
stop_or r ended None = if not ended then Open else end_stop r.so_far.places

-- why reading stops: a failure, the end of the input, or neither; ended input without a header is faulty
abbrev pub stop_of : Reading → Bool → Stop
stop_of r ended = stop_or r ended r.stopped

-- a way of reading: what bytes give, where the input ends behind them or goes on
abbrev pub Way : Type 0
Way = List ℕ → Bool → Reading
