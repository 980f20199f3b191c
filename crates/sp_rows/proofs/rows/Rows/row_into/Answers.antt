use Rattle.std.proofs.Common.{◌≡◌, ℕ, List, Vec, Global, sym, subst}
use Rattle.std.specs.Prelude.{Option}
use Rattle.std.specs.Option.{option_map}
use Rattle.sp_rows.specs.Cells.{RowCells, one, row_cells}
use Rattle.sp_rows.specs.Rows.{row_of_cells, by_cells, given_if}
use Rattle.sp_rows.specs.Progress.{plan_of, is_loose, read_of, reading, Answers, given_as}
use Rattle.sp_rows.specs.Shapes.{fields_in}
use Rattle.sp_rows.proofs.Answered.{answers_at}
use Rattle.sp_rows.proofs.rows.Rows.row_into.Goals as goal

-- the places that a header gave
abbrev places_in : Option (Vec ℕ Global) → Option (List ℕ)
places_in found = option_map (λ places. places.items) found

pub returns-in-Some-clause-answers : goal.returns-in-Some-clause-answers
returns-in-Some-clause-answers c =
    let told = c.event-in-Some.ensures in
    let self = c.args.self.now in
    let q = plan_of self in
    let cells = fields_in c.in-Ok-One.cells in
    let old = self.progress in
    let new = c.event-in-Some.new.self in
    let given = given_as c.event-in-Some.result c.event-in-Some.new.event in
    let is : one cells ≡ row_cells c.args.row.now = rw c.in-Ok-One.field-0-is at c.in-Ok-One.ensures in
    let read : Answers (given_if (is_loose self) (row_of_cells q (read_of self) cells (places_in self.places))) (read_of self) (reading (places_in self.places) new) given =
    subst (λ (found : Option (Vec ℕ Global)). Answers (given_if (is_loose self) (row_of_cells q (reading (places_in found) old) cells (places_in found))) (reading (places_in found) old) (reading (places_in found) new) given) (sym c.in-Some.is)
    (answers_at (is_loose self) q c.deref.result.now c.in-Some.places.items c.deref-in-Some.result.now cells old new c.event-in-Some.new.event c.event-in-Some.result c.deref.ensures c.deref-in-Some.ensures.value told.event told.error told.err) in
    subst (λ (read : RowCells). Answers (given_if (is_loose self) (by_cells q (read_of self) read)) (read_of self) (reading (places_in self.places) new) given) is read
