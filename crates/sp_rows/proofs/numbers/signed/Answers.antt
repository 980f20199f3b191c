use Rattle.std.proofs.Common.{arith}
use Rattle.std.proofs.lemmas.Grind.{common_steps}
use Rattle.sp_rows.proofs.numbers.signed.Goals as goal

pub returns-in-Some-eq43 : goal.returns-in-Some-eq43
returns-in-Some-eq43 c = grind (arith, common_steps)

pub returns-in-Some-eq45 : goal.returns-in-Some-eq45
returns-in-Some-eq45 c = grind (arith, common_steps)
