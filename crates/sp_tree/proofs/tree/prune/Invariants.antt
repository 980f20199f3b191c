use Rattle.std.proofs.Common.{◌≡◌}
use Rattle.sp_tree.specs.Branches.{changed_by, kept_shape, AreReshaped}
use Rattle.sp_tree.specs.Joined.{joined}
use Rattle.sp_tree.proofs.Pruned.{At}
use Rattle.sp_tree.proofs.tree.prune.Given as goal

abbrev pub invariant-loop-i : goal.invariant-loop-i
invariant-loop-i g l =
    At l.first (changed_by l.change) l.i (joined l.initial.versions.items l.initial.values.entries) l.versions.items l.values
    × (l.values.next ≡ l.initial.values.next) × (l.values.bound ≡ l.initial.values.bound)
    × AreReshaped kept_shape l.initial.versions.items l.versions.items

abbrev pub decreases-loop-i : goal.decreases-loop-i
decreases-loop-i g l = l.i
