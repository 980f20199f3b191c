use Rattle.std.proofs.Common.{◌≤ℤ◌, arith}
use Rattle.std.proofs.lemmas.Int.{ints}
use Rattle.sp_calls.proofs.Ordered.{ordered_one, ordered_more, ordered_all}
use Rattle.sp_calls.proofs.sequence.in_order.Goals as goal

pub loop-i-init : goal.loop-i-init
loop-i-init c = ordered_one c.args.events.now

pub loop-i-preserved : goal.loop-i-preserved
loop-i-preserved c =
    let step : c.index-events-i-in-loop-i.result.time ≤ℤ c.index-events-i.result.time = grind (arith, ints) in
    ordered_more c.args.events.now c.loop-i.i _ _ c.index-events-i-in-loop-i.result c.index-events-i.result c.loop-i.invariant (omega arith) (omega arith) c.index-events-i-in-loop-i.is c.index-events-i.is step

pub returns : goal.returns
returns c = λ is. ordered_all c.args.events.now c.loop-i.i c.loop-i.invariant (omega arith)
