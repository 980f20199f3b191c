-- What one row gives: an event, nothing, or a fault with its place.
use Rattle.std.specs.Prelude.{ℕ, ℤ, pos, ◌+◌, Bool, true, false, List, [], ◌∷◌, ◌++◌, map, Option, Some, None, is_none, slice_get, ◌==◌, find, position, int_lt, if◌then◌else◌}
use Rattle.std.specs.List.{fold, filter_map, enumerate_from, zip}
use Rattle.std.specs.Str.{bytes_eq, is_utf8}
use Rattle.sp_plan.specs.declared.event.Event.{Event}
use Rattle.sp_plan.specs.declared.event.Value.{Value}
use Rattle.sp_plan.specs.declared.event.Value.TheVariants.{Number, Symbol}
use Rattle.sp_plan.specs.declared.plan.Column.{Column}
use Rattle.sp_plan.specs.declared.plan.Kind.{Kind}
use Rattle.sp_plan.specs.declared.plan.Kind.TheVariants.{Int, Dec, Text}
use Rattle.sp_plan.specs.declared.plan.Plan.{Plan}
use Rattle.sp_rows.specs.declared.fault.RowKind.{RowKind}
use Rattle.sp_rows.specs.declared.fault.RowKind.TheVariants.{NoColumn, MissingCell, BadNumber, NotUtf8, BackInTime, TwoRows}
use Rattle.sp_rows.specs.declared.fault.RowFault.{RowFault}
use Rattle.sp_rows.specs.Cells.{RowCells, blank, one, several, row_cells}
use Rattle.sp_rows.specs.Numbers.{number_of, trimmed}
use Rattle.sp_plan.specs.Texts.{symbol_of, with_text}

-- how far the reading of rows has come: the place in a row of each column of the plan, once the header came; how many rows were read; the last time; the texts by their numbers
pub record RowsRead : Type 0 where
  pub places : Option (List ℕ)
  pub read : ℕ
  pub last : ℤ
  pub texts : List (List ℕ)

-- no row was read; the texts of the plan have the first numbers
abbrev pub start : Plan → RowsRead
start q = record { places = None; read = 0; last = pos 0; texts = fold with_text [] q.texts }

-- what a cell gives: a number, a text, or the kind of its fault
pub data Cell : Type 0 where
  number : ℤ → Cell
  text : List ℕ → Cell
  fault : RowKind → Cell

abbrev pub or_bad : Option ℤ → Cell
or_bad None = fault BadNumber
or_bad (Some n) = number n

abbrev pub not_negative : Option ℤ → Cell
not_negative None = fault BadNumber
not_negative (Some n) = if int_lt n (pos 0) then fault BadNumber else number n

-- a cell by the kind of its column; a time is at least 0
abbrev pub cell_of : Bool → Kind → List ℕ → Cell
cell_of true Int cell = not_negative (number_of 0 cell)
cell_of false Int cell = or_bad (number_of 0 cell)
cell_of is_time (Dec p) cell = or_bad (number_of p cell)
cell_of is_time Text cell = if is_utf8 cell then text cell else fault NotUtf8

-- a column of the plan: whether it is the time's, its kind, and its place in a row
pub record ColumnAt : Type 0 where
  pub is_time : Bool
  pub kind : Kind
  pub place : ℕ

abbrev pub is_place : Option ℕ → ℕ → Bool
is_place None place = false
is_place (Some own) place = own == place

-- the columns of the plan, in its order, at these places
abbrev pub columns_at : Plan → List ℕ → List ColumnAt
columns_at q places =
    map (λ x. record { is_time = is_place q.schema.time x.0; kind = x.1.0.kind; place = x.1.1 }) (enumerate_from 0 (zip q.schema.columns places))

abbrev pub cell_or_missing : ColumnAt → Option (List ℕ) → Cell
cell_or_missing column None = fault MissingCell
cell_or_missing column (Some cell) = cell_of column.is_time column.kind cell

-- what a row gives in a column; further cells of the row are ignored
abbrev pub cell_in : List (List ℕ) → ColumnAt → Cell
cell_in cells column = cell_or_missing column (slice_get cells column.place)

abbrev pub fault_in : ℕ → Cell → Option (RowKind × ℕ)
fault_in place (number n) = None
fault_in place (text t) = None
fault_in place (fault kind) = Some (kind, place + 1)

-- the fault of a row in a column, with the place of the cell from 1
abbrev pub fault_at : List (List ℕ) → ColumnAt → Option (RowKind × ℕ)
fault_at cells column = fault_in column.place (cell_in cells column)

-- the first fault of a row, column by column in the order of the plan
abbrev pub first_fault : List (List ℕ) → List ColumnAt → Option (RowKind × ℕ)
first_fault cells columns = slice_get (filter_map (fault_at cells) columns) 0

abbrev pub number_in : Cell → ℤ
number_in (number n) = n
number_in (text t) = pos 0
number_in (fault kind) = pos 0

abbrev pub time_in : List (List ℕ) → Option ColumnAt → ℤ
time_in cells None = pos 0
time_in cells (Some column) = number_in (cell_in cells column)

-- the time of a row; 0 where the plan has none
abbrev pub time_of : List (List ℕ) → List ColumnAt → ℤ
time_of cells columns = time_in cells (find (λ column. column.is_time) columns)

abbrev pub place_or_none : Option ColumnAt → ℕ
place_or_none None = 0
place_or_none (Some column) = column.place + 1

-- the place of the time's cell from 1
abbrev pub time_place : List ColumnAt → ℕ
time_place columns = place_or_none (find (λ column. column.is_time) columns)

-- the place of the time's cell in the rows, 0 where there is none
abbrev pub time_place_in : Plan → Option (List ℕ) → ℕ
time_place_in q None = 0
time_place_in q (Some places) = time_place (columns_at q places)

-- values with one more, and the texts once it was seen
abbrev pub with_cell : List Value × List (List ℕ) → Cell → List Value × List (List ℕ)
with_cell so_far (number n) = (so_far.0 ++ Number n ∷ [], so_far.1)
with_cell so_far (text t) = (so_far.0 ++ Symbol (symbol_of so_far.1 t) ∷ [], with_text so_far.1 t)
with_cell so_far (fault kind) = so_far

-- the values of a row without a fault, and the texts after it
abbrev pub values_of : List (List ℕ) → List (List ℕ) → List ColumnAt → List Value × List (List ℕ)
values_of texts cells columns = fold with_cell ([], texts) (map (cell_in cells) columns)

-- what a row gives: nothing, an event, or a fault
pub data RowResult : Type 0 where
  nothing : RowsRead → RowResult
  event : Event → RowsRead → RowResult
  refused : RowFault → RowResult

-- a fault at the row after those that were read
abbrev pub refused_at : RowsRead → RowKind → ℕ → RowResult
refused_at r kind column = refused (record { kind = kind; row = r.read + 1; column = column })

-- the event of a row without a fault in its cells
abbrev pub timely : RowsRead → List (List ℕ) → List ColumnAt → RowResult
timely r cells columns =
    if int_lt (time_of cells columns) r.last then refused_at r (BackInTime r.last (time_of cells columns)) (time_place columns)
    else event (record { time = time_of cells columns; values = (values_of r.texts cells columns).0 })
    (record r { read = r.read + 1; last = time_of cells columns; texts = (values_of r.texts cells columns).1 })

abbrev pub event_or_fault : RowsRead → List (List ℕ) → List ColumnAt → Option (RowKind × ℕ) → RowResult
event_or_fault r cells columns None = timely r cells columns
event_or_fault r cells columns (Some found) = refused_at r found.0 found.1

-- a row behind the header
abbrev pub event_row : Plan → RowsRead → List (List ℕ) → List ℕ → RowResult
event_row q r cells places = event_or_fault r cells (columns_at q places) (first_fault cells (columns_at q places))

-- the place of a column: the first cell of the header with its name
abbrev pub place_of : List (List ℕ) → Column → Option ℕ
place_of cells column = position (λ cell. bytes_eq (trimmed cell) column.name) cells

abbrev pub header_or_fault : Plan → RowsRead → List (List ℕ) → Option Column → RowResult
header_or_fault q r cells (Some column) = refused_at r (NoColumn column.name) 0
header_or_fault q r cells None = nothing (record r { places = Some (filter_map (place_of cells) q.schema.columns); read = r.read + 1 })

-- the header: the first column of the plan that it lacks is a fault
abbrev pub header_row : Plan → RowsRead → List (List ℕ) → RowResult
header_row q r cells = header_or_fault q r cells (find (λ column. is_none (place_of cells column)) q.schema.columns)

abbrev pub row_of_cells : Plan → RowsRead → List (List ℕ) → Option (List ℕ) → RowResult
row_of_cells q r cells None = header_row q r cells
row_of_cells q r cells (Some places) = event_row q r cells places

abbrev pub by_cells : Plan → RowsRead → RowCells → RowResult
by_cells q r blank = nothing (record r { read = r.read + 1 })
by_cells q r several = refused_at r TwoRows 0
by_cells q r (one cells) = row_of_cells q r cells r.places

-- what the next row gives
abbrev pub row_result : Plan → RowsRead → List ℕ → RowResult
row_result q r bytes = by_cells q r (row_cells bytes)

-- the same of rows whose times may go back, or may not: where they may no time is kept, so that none that comes later is before it
abbrev pub given_if : Bool → RowResult → RowResult
given_if loose (nothing r) = nothing r
given_if loose (event e r) = event e (record r { last = if loose then pos 0 else r.last })
given_if loose (refused f) = refused f
