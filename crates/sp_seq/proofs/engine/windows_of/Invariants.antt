use Rattle.std.specs.Arc.{arc_value}
use Rattle.sp_seq.proofs.Feeding.{Fed}
use Rattle.sp_seq.proofs.engine.windows_of.Given as goal

abbrev pub invariant-loop-event : goal.invariant-loop-event
invariant-loop-event l = Fed l.windows l.events l.event-index (arc_value l.fn.plan)
