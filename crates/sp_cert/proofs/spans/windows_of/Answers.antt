use Rattle.std.proofs.Common.{arith}
use Rattle.std.specs.Arc.{arc_value}
use Rattle.sp_parts.proofs.FedWindows.{in_order}
use Rattle.sp_cert.proofs.spans.windows_of.Goals as goal

pub feed-requires-clause-in_order : goal.feed-requires-clause-in_order
feed-requires-clause-in_order c =
    in_order c.loop-event.opened c.args.events.now c.loop-event.event-index (arc_value c.args.plan) c.loop-event.invariant _ c.event-item.result (omega arith) c.event-item.is c.requires.good
