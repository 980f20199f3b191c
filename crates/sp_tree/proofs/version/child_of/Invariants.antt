use Rattle.std.proofs.Common.{drop}
use Rattle.sp_tree.specs.Branches.{AreNoChild}
use Rattle.sp_tree.proofs.version.child_of.Given as goal

abbrev pub invariant-loop-i : goal.invariant-loop-i
invariant-loop-i l = AreNoChild (drop l.i l.versions) l.parent l.label → AreNoChild l.versions l.parent l.label
