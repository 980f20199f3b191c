-- What a cutter has left: the bytes fed behind the last row given, how many rows were given, and whether the input ended.
use Rattle.std.specs.Prelude.{ℕ, Bool, List, ◌==◌, if◌then◌else◌}
use Rattle.sp_cut.specs.CutRows.{CutRow, plain_rows, rows}

pub record Left : Type 0 where
  pub bytes : List ℕ
  pub given : ℕ
  pub ended : Bool

-- the rows that are still to be given; a byte order mark is dropped only at the start of the input
abbrev pub rows_left : Left → List CutRow
rows_left left = if left.given == 0 then rows left.bytes left.ended else plain_rows left.bytes left.ended
