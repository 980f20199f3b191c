use Rattle.std.proofs.Common.{rules}
use Rattle.sp_query.specs.Same.{SameTree}
use Rattle.sp_query.proofs.Pairs.{lengths_differ, differ_here, alike_here, alike_whole}
use Rattle.sp_query.proofs.SameForm.{tree_told, trees_told}
use Rattle.sp_query.proofs.same.+trees.Goals as goal

pub same_tree-returns-then-same_node : goal.same_tree-returns-then-same_node
same_tree-returns-then-same_node t c = tree_told c.args.x.now c.args.y.now c.same_node.result c.same_trees.result c.if-same_node.true c.same_node.ensures (search rules)

pub same_trees-returns-then-xs-ys : goal.same_trees-returns-then-xs-ys
same_trees-returns-then-xs-ys t c = trees_told _ _ _ (lengths_differ SameTree c.args.xs.now c.args.ys.now c.if-xs-ys.true)

pub same_trees-returns-then-not-same_tree : goal.same_trees-returns-then-not-same_tree
same_trees-returns-then-not-same_tree t c = trees_told _ _ _ (differ_here SameTree c.args.xs.now c.args.ys.now c.loop-x.yielded c.into_iter-x-iterator.result c.loop-x.x-iterator c.next.new.self c.next.result (cc) (cc) c.loop-x.yielded_by (c.in-Some.x, c.in-Some.y) c.in-Some.is c.next.ensures.steps _ c.if-not-same_tree.true c.same_tree.ensures)

pub same_trees-loop-x-preserved : goal.same_trees-loop-x-preserved
same_trees-loop-x-preserved t c = alike_here SameTree c.args.xs.now c.args.ys.now c.loop-x.yielded c.into_iter-x-iterator.result c.loop-x.x-iterator c.next.new.self c.next.result (cc) (cc) c.loop-x.yielded_by (c.in-Some.x, c.in-Some.y) c.in-Some.is c.next.ensures.steps _ c.if-not-same_tree.false c.same_tree.ensures c.loop-x.invariant

pub same_trees-returns : goal.same_trees-returns
same_trees-returns t c = trees_told _ _ _ (alike_whole SameTree c.args.xs.now c.args.ys.now c.loop-x.yielded c.into_iter-x-iterator.result c.loop-x.x-iterator c.next.new.self c.next.result (cc) (cc) c.loop-x.yielded_by c.in-None.is c.next.ensures.steps c.loop-x.invariant)
