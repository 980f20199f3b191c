use Rattle.sp_calls.proofs.Ordered.{FitTo}
use Rattle.sp_calls.proofs.sequence.all_fit.Given as goal

abbrev pub invariant-loop-event : goal.invariant-loop-event
invariant-loop-event l = FitTo l.plan l.event-index l.events
