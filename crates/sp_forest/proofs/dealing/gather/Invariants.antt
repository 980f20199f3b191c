use Rattle.std.proofs.Common.{◌≡◌, ◌-◌, ◌++◌, map}
use Rattle.sp_forest.specs.Dealing.{woven}
use Rattle.sp_forest.proofs.dealing.gather.Given as goal

abbrev pub invariant-loop : goal.invariant-loop
invariant-loop g l = record {
  found : woven l.groups (map (λ tree. tree.found.items) l.initial.trees.items) ≡ l.all.items ++ woven (l.groups - l.counter) (map (λ tree. tree.found.items) l.trees.items);
  names : map (λ tree. (goal.Predictor-dyn g (tree.predictor.vtable, tree.predictor.value)).named tree.predictor.value) l.trees.items
      ≡ map (λ tree. (goal.Predictor-dyn g (tree.predictor.vtable, tree.predictor.value)).named tree.predictor.value) l.initial.trees.items;
  plans : map (λ tree. tree.plan) l.trees.items ≡ map (λ tree. tree.plan) l.initial.trees.items;
  parts : map (λ tree. tree.parts.items) l.trees.items ≡ map (λ tree. tree.parts.items) l.initial.trees.items;
}
