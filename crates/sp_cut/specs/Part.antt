-- A part of the bytes, and the row that it is.
use Rattle.std.specs.Prelude.{ℕ, ◌==◌, ◌+◌, List, [], ◌∷◌, take, drop, if◌then◌else◌}
use Rattle.sp_base.specs.Marks.{without_mark}
use Rattle.sp_cut.specs.declared.part.Rest.{Rest}
use Rattle.sp_cut.specs.declared.part.Rest.TheVariants.{Long, Nothing, Row, OpenQuote as InQuotes}
use Rattle.sp_cut.specs.CutRows.{CutRow, row, long_row, open_quote, without_cr}
use Rattle.sp_cut.specs.Left.{Left}

-- the first bytes of those that are left, without the byte order mark at the start of the input
abbrev pub part_of : Left → ℕ → List ℕ
part_of left size = if left.given == 0 then without_mark (take size left.bytes) else take size left.bytes

-- what is left behind one row more, which took so many bytes
abbrev pub left_behind : Left → ℕ → Left
left_behind left taken = record { bytes = drop taken left.bytes; given = left.given + 1; ended = left.ended }

-- the rows of a rest, by what it is
abbrev pub rows_of_rest : List ℕ → Rest → List CutRow
rows_of_rest rest Long = long_row ∷ []
rows_of_rest rest Nothing = []
rows_of_rest rest Row = row (without_cr rest) ∷ []
rows_of_rest rest InQuotes = open_quote ∷ []
