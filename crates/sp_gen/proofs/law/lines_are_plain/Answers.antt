use Rattle.sp_gen.proofs.Lines.{lines_are_plain}
use Rattle.sp_gen.proofs.law.lines_are_plain.Goals as goal

pub returns : goal.returns
returns c = lines_are_plain
