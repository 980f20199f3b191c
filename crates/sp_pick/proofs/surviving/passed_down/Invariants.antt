use Rattle.std.proofs.Common.{◌≡◌, ◌≤◌}
use Rattle.sp_chance.specs.Shares.{share_of}
use Rattle.sp_pick.specs.Picking.{survival_in}
use Rattle.sp_pick.specs.Paths.{climbed}
use Rattle.sp_pick.proofs.surviving.passed_down.Given as goal

abbrev pub invariant-loop-left : goal.invariant-loop-left
invariant-loop-left g l = (l.left ≤ l.steps) × (l.share ≡ survival_in (share_of l.chances) l.tree.entries (climbed l.tree.entries l.left l.id))

abbrev pub decreases-loop-left : goal.decreases-loop-left
decreases-loop-left g l = l.left
