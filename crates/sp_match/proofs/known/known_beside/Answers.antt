use Rattle.std.proofs.Common.{sym, ◌∙◌}
use Rattle.sp_match.proofs.NeverTaken.{never_taken}
use Rattle.sp_match.proofs.known.known_beside.Goals as goal

pub returns-else-may_be_taken-clause-sure : goal.returns-else-may_be_taken-clause-sure
returns-else-may_be_taken-clause-sure c = λ r. never_taken c.what_may_not_hold_does_not.ensures c.args.event.now r c.args.plan.now (sym c.may_be_taken.ensures ∙ c.if-may_be_taken.false)
