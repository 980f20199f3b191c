use Rattle.std.proofs.Common.{◌≡◌, map, take, drop}
use Rattle.sp_forest.specs.Dealing.{dealt}
use Rattle.sp_forest.proofs.Passing.{Passed}
use Rattle.sp_forest.proofs.dealing.deal_group.Given as goal

abbrev pub invariant-loop-tree : goal.invariant-loop-tree
invariant-loop-tree g l = record {
  passed : Passed l.tree-index l.initial.tree-items l.tree-items;
  parts : map (λ tree. tree.parts.items) (take l.tree-index l.tree-items) ≡ dealt (map (λ tree. tree.parts.items) (take l.tree-index l.initial.tree-items)) l.initial.waiting.items;
  left : l.waiting.items ≡ drop l.tree-index l.initial.waiting.items;
  names : map (λ tree. (goal.Predictor-dyn g (tree.predictor.vtable, tree.predictor.value)).named tree.predictor.value) (take l.tree-index l.tree-items)
      ≡ map (λ tree. (goal.Predictor-dyn g (tree.predictor.vtable, tree.predictor.value)).named tree.predictor.value) (take l.tree-index l.initial.tree-items);
  plans : map (λ tree. tree.plan) (take l.tree-index l.tree-items) ≡ map (λ tree. tree.plan) (take l.tree-index l.initial.tree-items);
}
