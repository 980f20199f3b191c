use Rattle.std.proofs.Common.{true, sym, ◌∙◌}
use Rattle.sp_plan.proofs.KnownAnswers.{is_other}
use Rattle.sp_plan.proofs.ahead.may_hold.Goals as goal

pub returns-clause-sure : goal.returns-clause-sure
returns-clause-sure c = λ fails bound. is_other true c.args.pred.now c.args.event.now bound (sym c.may_be-2.ensures ∙ fails)
