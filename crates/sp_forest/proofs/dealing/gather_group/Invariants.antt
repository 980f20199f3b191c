use Rattle.std.proofs.Common.{◌≡◌, ◌++◌, map, take}
use Rattle.sp_forest.specs.Dealing.{heads, tails}
use Rattle.sp_forest.proofs.Passing.{Passed}
use Rattle.sp_forest.proofs.dealing.gather_group.Given as goal

abbrev pub invariant-loop-tree : goal.invariant-loop-tree
invariant-loop-tree g l = record {
  passed : Passed l.tree-index l.initial.tree-items l.tree-items;
  all : l.all.items ≡ l.initial.all.items ++ heads (map (λ tree. tree.found.items) (take l.tree-index l.initial.tree-items));
  found : map (λ tree. tree.found.items) (take l.tree-index l.tree-items) ≡ tails (map (λ tree. tree.found.items) (take l.tree-index l.initial.tree-items));
  names : map (λ tree. (goal.Predictor-dyn g (tree.predictor.vtable, tree.predictor.value)).named tree.predictor.value) (take l.tree-index l.tree-items)
      ≡ map (λ tree. (goal.Predictor-dyn g (tree.predictor.vtable, tree.predictor.value)).named tree.predictor.value) (take l.tree-index l.initial.tree-items);
  plans : map (λ tree. tree.plan) (take l.tree-index l.tree-items) ≡ map (λ tree. tree.plan) (take l.tree-index l.initial.tree-items);
  parts : map (λ tree. tree.parts.items) (take l.tree-index l.tree-items) ≡ map (λ tree. tree.parts.items) (take l.tree-index l.initial.tree-items);
}
