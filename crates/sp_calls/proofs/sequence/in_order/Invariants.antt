use Rattle.sp_calls.proofs.Ordered.{OrderedTo}
use Rattle.sp_calls.proofs.sequence.in_order.Given as goal

abbrev pub invariant-loop-i : goal.invariant-loop-i
invariant-loop-i l = OrderedTo l.i l.events
