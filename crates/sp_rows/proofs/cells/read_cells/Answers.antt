use Rattle.std.proofs.Common.{◌≡◌, ℕ, List, false, take, sym, ◌∙◌, ap}
use Rattle.sp_base.specs.Marks.{is_mark}
use Rattle.csv.specs.Reading.{strip_bom}
use Rattle.sp_rows.specs.Cells.{blank, one, several, without_marks, record_cells, row_cells}
use Rattle.sp_rows.specs.Plain.{pieces}
use Rattle.sp_rows.proofs.PlainRows.{plain_row, unmarked}
use Rattle.sp_rows.proofs.Pieces.{cut_pieces}
use Rattle.sp_rows.proofs.cells.read_cells.Goals as goal

-- a row reads as what stands behind its marks
behind_marks : (row rest : List ℕ) → rest ≡ without_marks row → is_mark (take 3 rest) ≡ false → record_cells rest ≡ row_cells row
behind_marks row rest is none = ap record_cells (sym (unmarked rest none) ∙ ap strip_bom is)

pub returns-then-branch : goal.returns-then-branch
returns-then-branch c =
    let rest = c.without_marks-rest.result.now in
    let found = c.in_ok-find_cells.ensures in
    let yes = c.if-branch.true in
    ap (λ (l : List ℕ). one (pieces rest 0 l)) (c.as_slice.ensures.value ∙ found.places yes)
    ∙ ap one (cut_pieces rest)
    ∙ plain_row c.args.row.now rest c.without_marks-rest.ensures.rest (found.some yes) (found.none yes) c.without_marks-rest.ensures.unmarked

pub returns-in-Blank : goal.returns-in-Blank
returns-in-Blank c =
    let rest = c.without_marks-rest.result.now in
    let read : blank ≡ record_cells rest = rw c.in-Blank.is at c.in_ok-read_cells.ensures in
    read ∙ behind_marks c.args.row.now rest c.without_marks-rest.ensures.rest c.without_marks-rest.ensures.unmarked

pub returns-in-One : goal.returns-in-One
returns-in-One c =
    let rest = c.without_marks-rest.result.now in
    let read : one c.read_cells.new.self.cells ≡ record_cells rest = rw c.in-One.is at c.in_ok-read_cells.ensures in
    ap one c.fields.ensures ∙ read ∙ behind_marks c.args.row.now rest c.without_marks-rest.ensures.rest c.without_marks-rest.ensures.unmarked

pub returns-in-Several : goal.returns-in-Several
returns-in-Several c =
    let rest = c.without_marks-rest.result.now in
    let read : several ≡ record_cells rest = rw c.in-Several.is at c.in_ok-read_cells.ensures in
    read ∙ behind_marks c.args.row.now rest c.without_marks-rest.ensures.rest c.without_marks-rest.ensures.unmarked
