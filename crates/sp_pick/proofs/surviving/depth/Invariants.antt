use Rattle.std.proofs.Common.{◌≡◌, ◌+◌, true, is_some}
use Rattle.sp_group.specs.Family.{entry_at}
use Rattle.sp_tree.specs.Grown.{kin}
use Rattle.sp_pick.specs.Picking.{depth_in}
use Rattle.sp_pick.proofs.surviving.depth.Given as goal

abbrev pub invariant-loop-parent : goal.invariant-loop-parent
invariant-loop-parent g l = (is_some (entry_at kin l.tree.entries l.at) ≡ true) × (l.depth + depth_in l.tree.entries l.at ≡ depth_in l.tree.entries l.id)

abbrev pub decreases-loop-parent : goal.decreases-loop-parent
decreases-loop-parent g l = depth_in l.tree.entries l.at
