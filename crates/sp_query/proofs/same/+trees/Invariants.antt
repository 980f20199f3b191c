use Rattle.std.proofs.Common.{length}
use Rattle.sp_query.specs.Same.{SameTree}
use Rattle.sp_query.proofs.Pairs.{PairsUpTo}
use Rattle.sp_query.proofs.same.+trees.Given as goal

abbrev pub invariant-same_trees-loop-x : goal.invariant-same_trees-loop-x
invariant-same_trees-loop-x l = PairsUpTo SameTree l.xs l.ys (length l.yielded)
