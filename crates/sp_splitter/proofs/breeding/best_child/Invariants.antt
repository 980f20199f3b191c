use Rattle.std.proofs.Common.{get_or}
use Rattle.sp_chance.specs.Shares.{share_of}
use Rattle.sp_splitter.specs.Bearing.{IsFoundAmong}
use Rattle.sp_splitter.proofs.breeding.best_child.Given as goal

abbrev pub invariant-loop-id : goal.invariant-loop-id
invariant-loop-id l = IsFoundAmong l.core l.tree (share_of l.chances) (λ k. get_or l.id-items k 0) l.id-index l.best
