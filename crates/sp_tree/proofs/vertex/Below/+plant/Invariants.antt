use Rattle.std.proofs.Common.{length}
use Rattle.sp_tree.proofs.vertex.Below.+plant.Given as goal

abbrev pub decreases-plant : goal.decreases-plant
decreases-plant l = length l.groups.now
