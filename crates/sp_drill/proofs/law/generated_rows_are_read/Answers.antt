use Rattle.sp_drill.proofs.Reading.{tables_are_read}
use Rattle.sp_drill.proofs.law.generated_rows_are_read.Goals as goal

pub returns : goal.returns
returns c = tables_are_read c.lines_are_plain.ensures
