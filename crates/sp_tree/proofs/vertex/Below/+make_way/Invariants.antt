use Rattle.std.proofs.Common.{length}
use Rattle.sp_tree.proofs.vertex.Below.+make_way.Given as goal

abbrev pub decreases-make_way : goal.decreases-make_way
decreases-make_way l = length l.groups.now
