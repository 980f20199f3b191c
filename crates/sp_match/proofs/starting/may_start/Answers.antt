use Rattle.std.proofs.Common.{arith}
use Rattle.std.proofs.lemmas.Grind.{common_steps}
use Rattle.sp_match.proofs.starting.may_start.Goals as goal

pub returns-in-First : goal.returns-in-First
returns-in-First c = grind (arith, common_steps)

pub returns-in-Passed : goal.returns-in-Passed
returns-in-Passed c = grind (arith, common_steps)

pub returns-in_default : goal.returns-in_default
returns-in_default c = grind (arith, common_steps)

pub returns-then-not-matches : goal.returns-then-not-matches
returns-then-not-matches c = grind (arith, common_steps)

pub returns-else-not-matches : goal.returns-else-not-matches
returns-else-not-matches c = grind (arith, common_steps)
