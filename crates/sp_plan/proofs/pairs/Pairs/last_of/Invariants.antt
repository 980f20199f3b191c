use Rattle.sp_plan.proofs.Blocks.{Walked}
use Rattle.sp_plan.proofs.pairs.Pairs.last_of.Given as goal

abbrev pub invariant-loop-left : goal.invariant-loop-left
invariant-loop-left l = Walked l.self l.left l.name

abbrev pub decreases-loop-left : goal.decreases-loop-left
decreases-loop-left l = l.left
