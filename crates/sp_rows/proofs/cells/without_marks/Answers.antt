use Rattle.std.proofs.Common.{◌∙◌, ap, sym}
use Rattle.sp_rows.specs.Cells.{without_marks}
use Rattle.sp_rows.proofs.Marks.{behind_mark}
use Rattle.sp_rows.proofs.cells.without_marks.Goals as goal

pub loop-rest-preserved : goal.loop-rest-preserved
loop-rest-preserved c =
    ap without_marks c.behind_mark-rest.ensures.rest ∙ behind_mark c.loop-rest.rest.now (sym c.is_marked.ensures.mark ∙ c.loop-rest-test.true) ∙ c.loop-rest.invariant
