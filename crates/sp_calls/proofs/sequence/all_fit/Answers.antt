use Rattle.std.proofs.Common.{rules, ◌≡◌, true, arith}
use Rattle.sp_plan.specs.Events.{fits}
use Rattle.sp_calls.proofs.Ordered.{fit_more, fit_all}
use Rattle.sp_calls.proofs.sequence.all_fit.Goals as goal

pub loop-event-init : goal.loop-event-init
loop-event-init c = λ i x less is. absurd (omega (arith, less))

pub loop-event-preserved : goal.loop-event-preserved
loop-event-preserved c =
    let fit : fits c.args.plan.now c.event-item.result ≡ true = search rules in
    fit_more c.args.plan.now c.args.events.now c.loop-event.event-index _ c.event-item.result c.loop-event.invariant (omega arith) c.event-item.is fit

pub returns : goal.returns
returns c = λ is. fit_all c.args.plan.now c.args.events.now c.loop-event.event-index c.loop-event.invariant (omega arith)
