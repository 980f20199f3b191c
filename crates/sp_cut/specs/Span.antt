-- Where the next row lies among the bytes left.
use Rattle.std.specs.Prelude.{ℕ, ◌≡◌, ◌≤◌, ◌+◌, List, [], length, Option, Some, None}
use Rattle.sp_cut.specs.declared.span.Span.{Span}
use Rattle.sp_cut.specs.Answer.{GivesRow}
use Rattle.sp_cut.specs.CutRows.{without_cr}
use Rattle.sp_cut.specs.Left.{Left, rows_left}
use Rattle.sp_cut.specs.Part.{part_of, left_behind}

-- the bytes of the row that lies there
abbrev pub bytes_at : Left → Span → List ℕ
bytes_at left span = without_cr (part_of left span.size)

-- the next row lies there
pub record LiesNext (left : Left) (span : Span) : Type 0 where
  pub within : span.size + span.feeds ≤ length left.bytes
  pub gives : GivesRow left (bytes_at left span) (left_behind left (span.size + span.feeds))

-- the next row lies there, or none is left
abbrev pub Finds : Left → Option Span → Type 0
Finds left None = rows_left left ≡ []
Finds left (Some span) = LiesNext left span
