use Rattle.sp_core.proofs.Suppressed.{Taken}
use Rattle.sp_core.proofs.machine.Core.suppressed_within.Given as goal

abbrev pub invariant-loop-parent : goal.invariant-loop-parent
invariant-loop-parent l = Taken l.self l.version l.below l.first l.count l.numbers.list

abbrev pub decreases-loop-parent : goal.decreases-loop-parent
decreases-loop-parent l = l.below
