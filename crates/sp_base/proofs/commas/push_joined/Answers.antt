use Rattle.std.proofs.Common.{arith}
use Rattle.std.proofs.lemmas.Grind.{common_steps}
use Rattle.sp_base.proofs.TakenBack.{anyway, begins_still}
use Rattle.sp_base.proofs.commas.push_joined.Goals as goal

pub returns-in_err-push_more-clause-err : goal.returns-in_err-push_more-clause-err
returns-in_err-push_more-clause-err c = anyway _ (begins_still _ _ _ _ c.in_ok-push_number.ensures.text c.in_err-push_more.ensures.err)

pub returns-in_ok-push_more-clause-text : goal.returns-in_ok-push_more-clause-text
returns-in_ok-push_more-clause-text c = grind (arith, common_steps)
