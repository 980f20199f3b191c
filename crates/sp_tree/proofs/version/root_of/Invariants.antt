use Rattle.std.proofs.Common.{◌≡◌, drop}
use Rattle.sp_tree.specs.Branches.{root_among}
use Rattle.sp_tree.proofs.version.root_of.Given as goal

abbrev pub invariant-loop-version : goal.invariant-loop-version
invariant-loop-version l = root_among l.versions ≡ root_among (drop l.version-index l.versions)
