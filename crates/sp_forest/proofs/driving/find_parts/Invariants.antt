use Rattle.std.proofs.Common.{◌≡◌, ◌<◌, [], vec_len}
use Rattle.std.specs.Arc.{arc_value}
use Rattle.std.specs.List.{All}
use Rattle.std.specs.VecDeque.{deque_len}
use Rattle.sp_forest.specs.Alike.{RunsAs}
use Rattle.sp_forest.specs.Drivable.{AreDrivable}
use Rattle.sp_forest.proofs.RoundOn.{FoundSoFar}
use Rattle.sp_forest.proofs.driving.find_parts.Given as goal

abbrev pub invariant-rounds : goal.invariant-rounds
invariant-rounds g l = record {
  found : FoundSoFar (arc_value l.fn.trees.plan) l.fn.parts.items l.waiting.items l.all.items;
  alike : All (λ tree. RunsAs (arc_value l.fn.trees.plan) (arc_value tree.plan)) l.standing.items;
  parts : AreDrivable (arc_value l.fn.trees.plan) l.fn.trees.stop l.waiting.items;
  idle : All (λ tree. tree.parts.items ≡ []) l.standing.items;
  size : 0 < vec_len l.standing;
}

abbrev pub decreases-rounds : goal.decreases-rounds
decreases-rounds g l = deque_len l.waiting
