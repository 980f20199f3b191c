use Rattle.std.proofs.Common.{arith}
use Rattle.std.proofs.lemmas.Grind.{common_steps}
use Rattle.sp_rows.proofs.numbers.are_zeros.Goals as goal

pub returns-then-b-ne48 : goal.returns-then-b-ne48
returns-then-b-ne48 c = grind (arith, common_steps)

pub loop-b-preserved : goal.loop-b-preserved
loop-b-preserved c = grind (arith, common_steps)

pub returns : goal.returns
returns c = grind (arith, common_steps)
