use Rattle.std.proofs.Common.{rules, ◌≡◌, true, false, sym, ◌∙◌}
use Rattle.sp_plan.proofs.KnownAnswers.{is_other}
use Rattle.sp_plan.proofs.ahead.known.Goals as goal

pub returns-then-not-may_be-clause-sure : goal.returns-then-not-may_be-clause-sure
returns-then-not-may_be-clause-sure c = λ answer is bound.
    let fails : c.may_be.result ≡ false = search rules in
    let same : false ≡ answer = cc in
    is_other true c.args.pred.now c.args.event.now bound (sym c.may_be.ensures ∙ fails) ∙ same

pub returns-then-not-may_be-2-clause-sure : goal.returns-then-not-may_be-2-clause-sure
returns-then-not-may_be-2-clause-sure c = λ answer is bound.
    let fails : c.may_be-else-not-may_be.result ≡ false = search rules in
    let same : true ≡ answer = cc in
    is_other false c.args.pred.now c.args.event.now bound (sym c.may_be-else-not-may_be.ensures ∙ fails) ∙ same
