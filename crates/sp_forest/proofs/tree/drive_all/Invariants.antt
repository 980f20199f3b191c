use Rattle.std.proofs.Common.{◌≡◌, ◌++◌, [], map}
use Rattle.std.specs.Arc.{arc_value}
use Rattle.std.specs.List.{All}
use Rattle.sp_plan.specs.Compiled.{IsCompiled}
use Rattle.sp_forest.specs.Drivable.{AreDrivable, moved_matches}
use Rattle.sp_parts.specs.Seen.{seen}
use Rattle.sp_forest.proofs.tree.drive_all.Given as goal

abbrev pub invariant-loop-tree : goal.invariant-loop-tree
invariant-loop-tree g l = record {
  names : map (λ tree. (goal.Predictor-dyn g (tree.predictor.vtable, tree.predictor.value)).named tree.predictor.value) l.driven.items
      ++ map (λ tree. (goal.Predictor-dyn g (tree.predictor.vtable, tree.predictor.value)).named tree.predictor.value) l.tree-iterator.rest.items
      ≡ map (λ tree. (goal.Predictor-dyn g (tree.predictor.vtable, tree.predictor.value)).named tree.predictor.value) l.fn.trees.items;
  plans : map (λ tree. tree.plan) l.driven.items ++ map (λ tree. tree.plan) l.tree-iterator.rest.items ≡ map (λ tree. tree.plan) l.fn.trees.items;
  found : map (λ tree. map (λ own. own.items) tree.found.items) l.driven.items
      ++ map (λ tree. map (λ part. moved_matches (arc_value tree.plan) (seen part)) tree.parts.items) l.tree-iterator.rest.items
      ≡ map (λ tree. map (λ part. moved_matches (arc_value tree.plan) (seen part)) tree.parts.items) l.fn.trees.items;
  idle : All (λ tree. tree.parts.items ≡ []) l.driven.items;
  compiled : All (λ tree. IsCompiled (arc_value tree.plan)) l.tree-iterator.rest.items;
  parts : All (λ tree. AreDrivable (arc_value tree.plan) l.ground.stop tree.parts.items) l.tree-iterator.rest.items;
}
