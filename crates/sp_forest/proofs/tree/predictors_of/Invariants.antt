use Rattle.std.proofs.Common.{◌≡◌, ◌++◌, map}
use Rattle.sp_forest.proofs.tree.predictors_of.Given as goal

abbrev pub invariant-loop-tree : goal.invariant-loop-tree
invariant-loop-tree g l =
    map (λ one. (goal.Predictor-dyn g (one.vtable, one.value)).named one.value) l.predictors.items
    ++ map (λ tree. (goal.Predictor-dyn g (tree.predictor.vtable, tree.predictor.value)).named tree.predictor.value) l.tree-iterator.rest.items
    ≡ map (λ tree. (goal.Predictor-dyn g (tree.predictor.vtable, tree.predictor.value)).named tree.predictor.value) l.fn.trees.items
