use Rattle.std.proofs.Common.{◌≡◌, ◌+◌, ◌<◌, ◌≤◌, map, vec_len}
use Rattle.std.specs.VecDeque.{deque_len}
use Rattle.sp_forest.specs.Dealing.{AreDealt}
use Rattle.sp_forest.proofs.dealing.deal_round.Given as goal

abbrev pub invariant-loop-waiting : goal.invariant-loop-waiting
invariant-loop-waiting g l = record {
  dealt : AreDealt l.fn.waiting.items l.groups (map (λ tree. tree.parts.items) l.trees.items) l.waiting.items;
  fewer : deque_len l.waiting + l.groups ≤ deque_len l.fn.waiting;
  some : 0 < l.groups;
  size : vec_len l.trees ≡ l.count;
  trees : 0 < l.count;
  names : map (λ tree. (goal.Predictor-dyn g (tree.predictor.vtable, tree.predictor.value)).named tree.predictor.value) l.trees.items
      ≡ map (λ tree. (goal.Predictor-dyn g (tree.predictor.vtable, tree.predictor.value)).named tree.predictor.value) l.fn.trees.items;
  plans : map (λ tree. tree.plan) l.trees.items ≡ map (λ tree. tree.plan) l.fn.trees.items;
}

abbrev pub decreases-loop-waiting : goal.decreases-loop-waiting
decreases-loop-waiting g l = deque_len l.waiting
