use Rattle.std.proofs.Common.{◌≡◌, ◌<◌, List, [], ◌∷◌, get_or, true, length, vec_len, sym, ◌∙◌, subst, rules, arith}
use Rattle.std.proofs.lemmas.Grind.{common_steps}
use Rattle.sp_query.specs.declared.tree.Tree.{Tree, out-Tree, size-Tree}
use Rattle.sp_compile.specs.Sorts.{is_arithmetic}
use Rattle.sp_compile.specs.Answers.{ExprAnswer}
use Rattle.sp_compile.proofs.Spined.{two_with, under, topped, first_falls, second_falls, no_larger}
use Rattle.sp_compile.proofs.Expressions.{one_part, operation_is, negative_is, is_sound}
use Rattle.sp_compile.proofs.expression.+expression.Goals.{in-Minus-len1, in_default}
use Rattle.sp_compile.proofs.expression.+expression.Goals as goal

pub expression-requires : goal.expression-requires
expression-requires t c =
    let d : size-Tree c.args.tree.now ≡ t = c.decreases in
    let parts : (out-Tree c.in_ok-nodes.first.now).parts ≡ c.part-item.result ∷ [] = sym c.as_slice.ensures ∙ one_part c.as_slice.result.now c.part-item.result c.in-Minus-len1.len_at_least c.in-Minus-len1.len_below c.part-item.is in
    let falls = first_falls c.in_ok-nodes.first.now c.part-item.result [] parts in
    let above = no_larger c.args.tree.now c.in_ok-nodes.nodes.items c.in_ok-nodes.first.now c.in_ok-nodes.ensures in
    let k : size-Tree c.part-item.result < t = omega arith in
    (k, c.requires)

pub loop-node-init : goal.loop-node-init
loop-node-init t c =
    let S = c.args.scope.now in
    let first = c.in_ok-nodes.first.now in
    let answer : ExprAnswer S c.args.texts.now first c.match-first.made = elim c.match-first.branch [
      | in-Minus-len1 w ↦
          let parts : (out-Tree first).parts ≡ w.part-item.result ∷ [] = sym c.as_slice.ensures ∙ one_part c.as_slice.result.now w.part-item.result w.in-Minus-len1.len_at_least w.in-Minus-len1.len_below w.part-item.is in
          subst (ExprAnswer S c.args.texts.now first) (sym w.made-is) (negative_is S c.args.texts.now first w.part-item.result w.expression.result w.negative-made.result w.in-Minus-len1.is-0 parts w.expression.ensures w.negative-made.ensures)
      | in_default w ↦ subst (ExprAnswer S c.args.texts.now first) (sym w.made-is) w.operand-made.ensures
    ] in
    record { here = first; spine = c.in_ok-nodes.ensures; answer = answer }

pub expression-right-requires : goal.expression-right-requires
expression-right-requires t c =
    let d : size-Tree c.args.tree.now ≡ t = c.decreases in
    let i = c.loop-node.invariant in
    let u = under c.args.tree.now c.pop.new.self.items c.loop-node.nodes.items c.in-Some.node i.here i.spine c.in-Some.ensures.items in
    let parts = two_with (out-Tree c.in-Some.node.now).parts i.here u.0 c.right-item.result u.1.1 (subst (λ (xs : List Tree). c.right-item.result ≡ get_or xs 1 c.right-item.result) c.as_slice-in-Some.ensures c.right-item.is) in
    let falls = second_falls c.in-Some.node.now i.here c.right-item.result [] parts in
    let above = no_larger c.args.tree.now c.pop.new.self.items c.in-Some.node.now u.1.0 in
    let k : size-Tree c.right-item.result < t = omega arith in
    (k, c.requires)

pub operation-made-requires-clause-left : goal.operation-made-requires-clause-left
operation-made-requires-clause-left t c =
    let i = c.loop-node.invariant in
    is_sound c.args.scope.now c.args.texts.now i.here c.loop-node.made i.answer

pub loop-node-preserved : goal.loop-node-preserved
loop-node-preserved t c =
    let S = c.args.scope.now in
    let node = c.in-Some.node.now in
    let i = c.loop-node.invariant in
    let u = under c.args.tree.now c.pop.new.self.items c.loop-node.nodes.items c.in-Some.node i.here i.spine c.in-Some.ensures.items in
    let parts = two_with (out-Tree node).parts i.here u.0 c.right-item.result u.1.1 (subst (λ (xs : List Tree). c.right-item.result ≡ get_or xs 1 c.right-item.result) c.as_slice-in-Some.ensures c.right-item.is) in
    let a : is_arithmetic (out-Tree node).node ≡ true = search rules in
    record { here = node; spine = u.1.0; answer = operation_is S c.args.texts.now node i.here c.right-item.result c.loop-node.made c.expression-right.result c.operation-made.result a parts i.answer c.expression-right.ensures c.operation-made.ensures }

pub returns : goal.returns
returns t c =
    let S = c.args.scope.now in
    let i = c.loop-node.invariant in
    let whole : vec_len c.loop-node.nodes ≡ length c.loop-node.nodes.items = c.loop-node.nodes.ok.0 in
    let none : length c.loop-node.nodes.items ≡ 0 = grind (arith, common_steps, c.in_default-pop.ensures.variant) in
    subst (λ (k : Tree). ExprAnswer S c.args.texts.now k c.loop-node.made) (topped c.args.tree.now c.loop-node.nodes.items i.here i.spine none) i.answer
