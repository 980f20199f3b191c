-- What clauses see of the values between the steps.
use Rattle.std.specs.Prelude.{◌≡◌, ℕ, List, find, is_none, Some, None}
use Rattle.std.specs.List.{filter_map}
use Rattle.std.specs.Option.{option_map}
use Rattle.sp_rows.specs.declared.split.Fields.{Fields}
use Rattle.sp_rows.specs.declared.cells.Row.{Row}
use Rattle.sp_rows.specs.declared.cells.Row.TheVariants as row
use Rattle.sp_rows.specs.declared.quoted.Cells.{Cells}
use Rattle.sp_rows.specs.declared.quoted.Cells.TheVariants as read
use Rattle.sp_plan.specs.declared.plan.Column.{Column}
use Rattle.sp_rows.specs.declared.header.Header.{Header}
use Rattle.sp_rows.specs.declared.header.Header.TheVariants as header
use Rattle.sp_rows.specs.declared.columns.Placed.{Placed}
use Rattle.sp_rows.specs.declared.content.Content.{Content}
use Rattle.sp_rows.specs.declared.content.Content.TheVariants as content
use Rattle.sp_rows.specs.Cells.{RowCells, blank, one, several}
use Rattle.sp_rows.specs.Plain.{pieces}
use Rattle.sp_rows.specs.Rows.{ColumnAt, Cell, number, text, fault, place_of}

-- the cells of a row
abbrev pub fields_in : Fields → List (List ℕ)
fields_in fields = pieces fields.row.now 0 fields.nexts.now

-- what a row reads as, where these are the cells of one record
abbrev pub shape_of : Cells → List (List ℕ) → RowCells
shape_of read.Blank cells = blank
shape_of read.One cells = one cells
shape_of read.Several cells = several

-- what a row reads as
abbrev pub read_as : Row → RowCells
read_as row.Blank = blank
read_as (row.One fields) = one (fields_in fields)
read_as row.Several = several

-- what the header gives: the place of each column, or the name of the first column that it lacks
abbrev pub HeaderIs : List (List ℕ) → List Column → Header → Type 0
HeaderIs cells columns (header.Places places) =
    (find (λ column. is_none (place_of cells column)) columns ≡ None) × (places.items ≡ filter_map (place_of cells) columns)
HeaderIs cells columns (header.Lacks name) =
    option_map (λ column. column.name) (find (λ column. is_none (place_of cells column)) columns) ≡ Some name

-- a column of the plan with its place
abbrev pub column_of : Placed → ColumnAt
column_of placed = record { is_time = placed.is_time; kind = placed.kind; place = placed.place }

-- what a cell gives
abbrev pub cell_shape : Content → Cell
cell_shape (content.Number n) = number n
cell_shape (content.Text t) = text t.now
cell_shape (content.Fault kind) = fault kind
