use Rattle.std.proofs.Common.{arith}
use Rattle.std.proofs.lemmas.Grind.{common_steps}
use Rattle.sp_rows.proofs.values.push_content.Goals as goal

pub returns-in_err-push-in-Number-clause-kept : goal.returns-in_err-push-in-Number-clause-kept
returns-in_err-push-in-Number-clause-kept c = grind (arith, common_steps)

pub returns-in-Fault-clause-kept : goal.returns-in-Fault-clause-kept
returns-in-Fault-clause-kept c = grind (arith, common_steps)

pub returns-clause-kept : goal.returns-clause-kept
returns-clause-kept c = grind (arith, common_steps)
