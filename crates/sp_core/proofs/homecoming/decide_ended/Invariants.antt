use Rattle.std.proofs.Common.{◌≡◌, ◌-◌, length, Some}
use Rattle.sp_group.specs.Family.{entry_at}
use Rattle.sp_tree.specs.Grown.{Entry, groups_of, kin}
use Rattle.sp_version.specs.declared.version.Version.{Version}
use Rattle.sp_core.proofs.DecidedGroups.{AreDecided}
use Rattle.sp_core.proofs.homecoming.decide_ended.Given as goal

abbrev pub invariant-loop-i : goal.invariant-loop-i
invariant-loop-i l = (e : Entry Version) → entry_at kin l.initial.tree.entries l.owner ≡ Some e → AreDecided l.initial.tree l.owner l.completed e l.i l.tree

abbrev pub decreases-loop-i : goal.decreases-loop-i
decreases-loop-i l = length (groups_of (entry_at kin l.tree.entries l.owner)) - l.i
