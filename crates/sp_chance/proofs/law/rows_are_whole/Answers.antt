use Rattle.sp_chance.proofs.Whole.{rows-are-whole}
use Rattle.sp_chance.proofs.law.rows_are_whole.Goals as goal

pub returns : goal.returns
returns c = rows-are-whole
