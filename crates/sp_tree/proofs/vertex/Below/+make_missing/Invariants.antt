use Rattle.std.proofs.Common.{length}
use Rattle.sp_tree.proofs.vertex.Below.+make_missing.Given as goal

abbrev pub decreases-make_missing : goal.decreases-make_missing
decreases-make_missing l = length l.groups.now
