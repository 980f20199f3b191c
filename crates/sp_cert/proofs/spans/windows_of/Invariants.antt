use Rattle.std.specs.Arc.{arc_value}
use Rattle.sp_parts.proofs.FedWindows.{Fed}
use Rattle.sp_cert.proofs.spans.windows_of.Given as goal

abbrev pub invariant-loop-event : goal.invariant-loop-event
invariant-loop-event l = Fed l.opened l.events l.event-index (arc_value l.fn.plan)
