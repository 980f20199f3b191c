use Rattle.std.proofs.Common.{◌≡◌, ◌<◌, List, [], ◌∷◌, get_or, true, length, vec_len, sym, ◌∙◌, subst, rules, arith}
use Rattle.std.proofs.lemmas.Grind.{common_steps}
use Rattle.sp_query.specs.declared.tree.Tree.{Tree, out-Tree, size-Tree}
use Rattle.sp_compile.specs.Checks.{is_junction}
use Rattle.sp_compile.specs.Answers.{PredAnswer}
use Rattle.sp_compile.proofs.Spined.{two_with, under, topped, first_falls, second_falls, no_larger}
use Rattle.sp_compile.proofs.Expressions.{one_part}
use Rattle.sp_compile.proofs.Predicates.{joint_is, negation_is, is_within}
use Rattle.sp_compile.proofs.predicate.+predicate.Goals.{in-Test-len2, in-Not-len1, in_default}
use Rattle.sp_compile.proofs.predicate.+predicate.Goals as goal

pub predicate-requires : goal.predicate-requires
predicate-requires t c =
    let d : size-Tree c.args.tree.now ≡ t = c.decreases in
    let parts : (out-Tree c.in_ok-nodes.first.now).parts ≡ c.part-item.result ∷ [] = sym c.as_slice.ensures ∙ one_part c.as_slice.result.now c.part-item.result c.in-Not-len1.len_at_least c.in-Not-len1.len_below c.part-item.is in
    let falls = first_falls c.in_ok-nodes.first.now c.part-item.result [] parts in
    let above = no_larger c.args.tree.now c.in_ok-nodes.nodes.items c.in_ok-nodes.first.now c.in_ok-nodes.ensures in
    let k : size-Tree c.part-item.result < t = omega arith in
    (k, c.requires)

pub loop-node-init : goal.loop-node-init
loop-node-init t c =
    let S = c.args.scope.now in
    let first = c.in_ok-nodes.first.now in
    let answer : PredAnswer S c.args.texts.now first c.match-first.made = elim c.match-first.branch [
      | in-Not-len1 w ↦
          let parts : (out-Tree first).parts ≡ w.part-item.result ∷ [] = sym c.as_slice.ensures ∙ one_part c.as_slice.result.now w.part-item.result w.in-Not-len1.len_at_least w.in-Not-len1.len_below w.part-item.is in
          subst (PredAnswer S c.args.texts.now first) (sym w.made-is) (negation_is S c.args.texts.now first w.part-item.result w.predicate.result w.negation-made.result w.in-Not-len1.is-0 parts w.predicate.ensures w.negation-made.ensures)
      | in-Test-len2 w ↦ subst (PredAnswer S c.args.texts.now first) (sym w.made-is) w.test-made.ensures
      | in_default w ↦ subst (PredAnswer S c.args.texts.now first) (sym w.made-is) tt
    ] in
    record { here = first; spine = c.in_ok-nodes.ensures; answer = answer }

pub predicate-right-requires : goal.predicate-right-requires
predicate-right-requires t c =
    let d : size-Tree c.args.tree.now ≡ t = c.decreases in
    let i = c.loop-node.invariant in
    let u = under c.args.tree.now c.pop.new.self.items c.loop-node.nodes.items c.in-Some.node i.here i.spine c.in-Some.ensures.items in
    let parts = two_with (out-Tree c.in-Some.node.now).parts i.here u.0 c.right-item-then-this-lt3-2.result u.1.1 (subst (λ (xs : List Tree). c.right-item-then-this-lt3-2.result ≡ get_or xs 1 c.right-item-then-this-lt3-2.result) c.as_slice-in-Some.ensures c.right-item-then-this-lt3-2.is) in
    let falls = second_falls c.in-Some.node.now i.here c.right-item-then-this-lt3-2.result [] parts in
    let above = no_larger c.args.tree.now c.pop.new.self.items c.in-Some.node.now u.1.0 in
    let k : size-Tree c.right-item-then-this-lt3-2.result < t = omega arith in
    (k, c.requires)

pub joint-made-requires-clause-left : goal.joint-made-requires-clause-left
joint-made-requires-clause-left t c =
    let i = c.loop-node.invariant in
    is_within c.args.scope.now c.args.texts.now i.here c.loop-node.made i.answer

pub loop-node-preserved : goal.loop-node-preserved
loop-node-preserved t c =
    let S = c.args.scope.now in
    let node = c.in-Some.node.now in
    let i = c.loop-node.invariant in
    let u = under c.args.tree.now c.pop.new.self.items c.loop-node.nodes.items c.in-Some.node i.here i.spine c.in-Some.ensures.items in
    let parts = two_with (out-Tree node).parts i.here u.0 c.right-item-then-this-lt3-2.result u.1.1 (subst (λ (xs : List Tree). c.right-item-then-this-lt3-2.result ≡ get_or xs 1 c.right-item-then-this-lt3-2.result) c.as_slice-in-Some.ensures c.right-item-then-this-lt3-2.is) in
    let a : is_junction (out-Tree node).node ≡ true = search rules in
    record { here = node; spine = u.1.0; answer = joint_is S c.args.texts.now node i.here c.right-item-then-this-lt3-2.result c.loop-node.made c.predicate-right.result c.joint-made.result a parts i.answer c.predicate-right.ensures c.joint-made.ensures }

pub returns : goal.returns
returns t c =
    let S = c.args.scope.now in
    let i = c.loop-node.invariant in
    let whole : vec_len c.loop-node.nodes ≡ length c.loop-node.nodes.items = c.loop-node.nodes.ok.0 in
    let none : length c.loop-node.nodes.items ≡ 0 = grind (arith, common_steps, c.in_default-pop.ensures.variant) in
    subst (λ (k : Tree). PredAnswer S c.args.texts.now k c.loop-node.made) (topped c.args.tree.now c.loop-node.nodes.items i.here i.spine none) i.answer
