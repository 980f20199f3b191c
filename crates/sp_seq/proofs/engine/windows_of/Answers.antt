use Rattle.std.proofs.Common.{arith}
use Rattle.std.specs.Arc.{arc_value}
use Rattle.sp_seq.proofs.Feeding.{fed_none, fed_more}
use Rattle.sp_seq.proofs.engine.windows_of.Goals as goal

pub loop-event-init : goal.loop-event-init
loop-event-init c = fed_none c.in_ok-windows.windows c.args.events.now (arc_value c.args.plan) c.in_ok-windows.ensures.stands c.in_ok-windows.ensures.plan c.requires.fit

pub loop-event-preserved : goal.loop-event-preserved
loop-event-preserved c =
    let fed = c.in_ok-feed.ensures in
    fed_more c.loop-event.windows c.feed.new.self c.args.events.now c.loop-event.event-index (arc_value c.args.plan) _ c.event-item.result c.loop-event.invariant (omega arith) c.event-item.is c.requires.ordered fed.stands fed.fed fed.time c.feed.ensures.plan c.feed.ensures.more
