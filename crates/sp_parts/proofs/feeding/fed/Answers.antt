use Rattle.std.proofs.Common.{arith}
use Rattle.std.specs.Arc.{arc_value}
use Rattle.sp_parts.proofs.FedWindows.{fits_next, in_order, fed_next}
use Rattle.sp_parts.proofs.feeding.fed.Goals as goal

pub feed-requires-clause-fits : goal.feed-requires-clause-fits
feed-requires-clause-fits c = fits_next c.loop-event.windows c.args.events.now c.loop-event.event-index (arc_value c.args.plan) c.loop-event.invariant _ c.event-item.result (omega arith) c.event-item.is c.requires.good

pub feed-requires-clause-in_order : goal.feed-requires-clause-in_order
feed-requires-clause-in_order c = in_order c.loop-event.windows c.args.events.now c.loop-event.event-index (arc_value c.args.plan) c.loop-event.invariant _ c.event-item.result (omega arith) c.event-item.is c.requires.good

pub loop-event-preserved : goal.loop-event-preserved
loop-event-preserved c =
    let fed = c.in_ok-feed.ensures in
    fed_next c.loop-event.windows c.args.events.now c.loop-event.event-index (arc_value c.args.plan) c.loop-event.invariant _ c.event-item.result (omega arith) c.event-item.is c.requires.good c.feed.new.self fed.stands fed.fed c.feed.ensures.plan c.feed.ensures.more
