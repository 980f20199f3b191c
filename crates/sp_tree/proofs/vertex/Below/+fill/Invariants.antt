use Rattle.std.proofs.Common.{length}
use Rattle.sp_tree.proofs.vertex.Below.+fill.Given as goal

abbrev pub decreases-fill : goal.decreases-fill
decreases-fill l = length l.groups.now
