use Rattle.std.proofs.Common.{◌<◌, length, ◌∙◌, ap, arith, drop, take, get_or, ◌++◌}
use Rattle.std.proofs.lemmas.List.{drop-drop}
use Rattle.sp_forest.proofs.Passing.{passed_more, same_more, dealt_step}
use Rattle.sp_forest.proofs.dealing.deal_group.Goals as goal

pub loop-tree-preserved : goal.loop-tree-preserved
loop-tree-preserved g c =
    let l = c.loop-tree in
    let i = l.tree-index in
    let old = c.deref_mut-tree-items.result.now in
    let inside : i < length l.tree-items = omega arith in
    let waiting = c.args.waiting.now.items in record {
      passed = passed_more i old l.tree-items l.invariant.passed inside c.tree-item.result c.deal.new.tree;
      parts = dealt_step i old l.tree-items l.invariant.passed inside c.tree-item.result (λ tree. tree.parts.items) waiting c.deal.new.tree
          (c.in_ok-deal.ensures.parts ∙ ap (λ items. (get_or l.tree-items i c.tree-item.result).parts.items ++ take 1 items) l.invariant.left) l.invariant.parts;
      left = c.deal.ensures.left ∙ ap (drop 1) l.invariant.left ∙ drop-drop 1 i waiting;
      names = same_more i old l.tree-items l.invariant.passed inside c.tree-item.result
          (λ tree. (goal.Predictor-dyn g (tree.predictor.vtable, tree.predictor.value)).named tree.predictor.value) c.deal.new.tree c.deal.ensures.name l.invariant.names;
      plans = same_more i old l.tree-items l.invariant.passed inside c.tree-item.result (λ tree. tree.plan) c.deal.new.tree c.deal.ensures.plan l.invariant.plans;
    }
