use Rattle.std.proofs.Common.{◌≡◌, ◌≤◌, ◌++◌, [], length, map, take, vec_len}
use Rattle.std.specs.List.{All}
use Rattle.sp_forest.proofs.tree.trees_of.Given as goal

abbrev pub invariant-loop-predictor : goal.invariant-loop-predictor
invariant-loop-predictor g l = record {
  names : map (λ tree. (goal.Predictor-dyn g (tree.predictor.vtable, tree.predictor.value)).named tree.predictor.value) l.made.items
      ++ map (λ one. (goal.Predictor-dyn g (one.vtable, one.value)).named one.value) l.predictor-iterator.rest.items
      ≡ map (λ one. (goal.Predictor-dyn g (one.vtable, one.value)).named one.value) l.fn.trees.predictors.items;
  plans : map (λ tree. tree.plan) l.made.items ++ take (length l.predictor-iterator.rest.items) l.plans.rest.items ≡ take (vec_len l.fn.trees.predictors) l.fn.trees.own.items;
  enough : length l.predictor-iterator.rest.items ≤ length l.plans.rest.items;
  idle : All (λ tree. tree.parts.items ≡ []) l.made.items;
}
