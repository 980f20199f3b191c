use Rattle.std.proofs.Common.{length}
use Rattle.sp_query.proofs.Pairs.{PairsUpTo}
use Rattle.sp_query.proofs.same.same_list.Given as goal

abbrev pub invariant-loop-x : goal.invariant-loop-x
invariant-loop-x g l = PairsUpTo g.P.Part.alike l.xs l.ys (length l.yielded)
