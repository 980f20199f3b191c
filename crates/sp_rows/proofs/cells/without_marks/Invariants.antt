use Rattle.std.proofs.Common.{◌≡◌, length}
use Rattle.sp_rows.specs.Cells.{without_marks}
use Rattle.sp_rows.proofs.cells.without_marks.Given as goal

abbrev pub invariant-loop-rest : goal.invariant-loop-rest
invariant-loop-rest l = without_marks l.rest ≡ without_marks l.fn.row

abbrev pub decreases-loop-rest : goal.decreases-loop-rest
decreases-loop-rest l = length l.rest
