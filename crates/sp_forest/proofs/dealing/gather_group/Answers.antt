use Rattle.std.proofs.Common.{◌<◌, length, ◌∙◌, arith}
use Rattle.sp_forest.proofs.Passing.{passed_more, same_more, heads_step, tails_step}
use Rattle.sp_forest.proofs.dealing.gather_group.Goals as goal

pub loop-tree-preserved : goal.loop-tree-preserved
loop-tree-preserved g c =
    let l = c.loop-tree in
    let i = l.tree-index in
    let old = c.deref_mut-tree-items.result.now in
    let inside : i < length l.tree-items = omega arith in record {
      passed = passed_more i old l.tree-items l.invariant.passed inside c.tree-item.result c.take_found.new.tree;
      all = c.in_ok-take_found.ensures.head ∙ heads_step i old l.tree-items l.invariant.passed inside c.tree-item.result (λ tree. tree.found.items) l.all.items c.args.all.now.items l.invariant.all;
      found = tails_step i old l.tree-items l.invariant.passed inside c.tree-item.result (λ tree. tree.found.items) c.take_found.new.tree c.take_found.ensures.tail l.invariant.found;
      names = same_more i old l.tree-items l.invariant.passed inside c.tree-item.result
          (λ tree. (goal.Predictor-dyn g (tree.predictor.vtable, tree.predictor.value)).named tree.predictor.value) c.take_found.new.tree c.take_found.ensures.name l.invariant.names;
      plans = same_more i old l.tree-items l.invariant.passed inside c.tree-item.result (λ tree. tree.plan) c.take_found.new.tree c.take_found.ensures.plan l.invariant.plans;
      parts = same_more i old l.tree-items l.invariant.passed inside c.tree-item.result (λ tree. tree.parts.items) c.take_found.new.tree c.take_found.ensures.parts l.invariant.parts;
    }
