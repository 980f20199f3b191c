use Rattle.std.proofs.Common.{◌≡◌, ◌++◌, Ok, map}
use Rattle.sp_forest.proofs.tree.all_of.Given as goal

abbrev pub invariant-loop-tree : goal.invariant-loop-tree
invariant-loop-tree g l = map (λ tree. Ok tree) l.trees.items ++ l.tree-iterator.rest.items ≡ l.fn.ended.items
