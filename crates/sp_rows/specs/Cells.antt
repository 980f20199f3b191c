-- The cells of a row, as the crate csv reads them.
use Rattle.std.specs.Prelude.{ℕ, zero, suc, List, [], length, take, drop, Option, Some, None, if◌then◌else◌}
use Rattle.csv.specs.Machine.{next_record, Read}
use Rattle.csv.specs.Reading.{default_config, strip_bom}
use Rattle.csv.specs.declared.parser.State.TheVariants as st
use Rattle.sp_base.specs.Marks.{is_mark}

-- a row is blank, has cells, or reads as more than one record
pub data RowCells : Type 0 where
  blank : RowCells
  one : List (List ℕ) → RowCells
  several : RowCells

abbrev pub after_second : List (List ℕ) → Option Read → RowCells
after_second cells None = one cells
after_second cells (Some more) = several

abbrev pub after_first : Option Read → RowCells
after_first None = blank
after_first (Some record_read) = after_second record_read.0 (next_record default_config record_read.1 [] [] record_read.2)

-- bytes without the byte order marks at their start, at most n of them
abbrev pub without_some : ℕ → List ℕ → List ℕ
without_some zero bytes = bytes
without_some (suc n) bytes = if is_mark (take 3 bytes) then without_some n (drop 3 bytes) else bytes

-- bytes without all byte order marks at their start
abbrev pub without_marks : List ℕ → List ℕ
without_marks bytes = without_some (length bytes) bytes

-- the cells of the records that bytes are
abbrev pub record_cells : List ℕ → RowCells
record_cells bytes = after_first (next_record default_config st.StartRecord [] [] bytes)

-- the cells of a row
abbrev pub row_cells : List ℕ → RowCells
row_cells bytes = record_cells (strip_bom (without_marks bytes))
