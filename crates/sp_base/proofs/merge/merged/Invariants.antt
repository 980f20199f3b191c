use Rattle.std.proofs.Common.{length, ◌+◌, ◌-◌}
use Rattle.sp_base.proofs.Merging.{Merging}
use Rattle.sp_base.proofs.merge.merged.Given as goal

abbrev pub invariant-loop-one : goal.invariant-loop-one
invariant-loop-one l = Merging l.ones l.others l.list.items l.one l.other

abbrev pub decreases-loop-one : goal.decreases-loop-one
decreases-loop-one l = (length l.ones - l.one) + (length l.others - l.other)
