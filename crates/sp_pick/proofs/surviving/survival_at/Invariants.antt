use Rattle.std.proofs.Common.{◌≡◌, ◌≤◌}
use Rattle.sp_chance.specs.Shares.{share_of}
use Rattle.sp_pick.specs.Picking.{depth_in, survival_in}
use Rattle.sp_pick.specs.Paths.{climbed}
use Rattle.sp_pick.proofs.surviving.survival_at.Given as goal

abbrev pub invariant-loop-left : goal.invariant-loop-left
invariant-loop-left g l =
    (l.left ≤ depth_in l.tree.entries l.id) × (l.share ≡ survival_in (share_of l.chances) l.tree.entries (climbed l.tree.entries l.left l.id))

abbrev pub decreases-loop-left : goal.decreases-loop-left
decreases-loop-left g l = l.left
