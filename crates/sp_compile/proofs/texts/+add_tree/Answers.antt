use Rattle.std.proofs.Common.{◌≡◌, ◌<◌, List, [], ◌∷◌, get_or, length, vec_len, fold, refl, sym, ap, ◌∙◌, subst, rules, arith}
use Rattle.std.proofs.lemmas.Grind.{common_steps}
use Rattle.sp_plan.specs.Texts.{with_text}
use Rattle.sp_query.specs.declared.tree.Tree.{Tree, out-Tree, size-Tree}
use Rattle.sp_compile.specs.Gathers.{Gathers}
use Rattle.sp_compile.specs.Stands.{literal_of}
use Rattle.sp_compile.proofs.Expressions.{one_part}
use Rattle.sp_compile.proofs.Gathering.{gathers_none, gathers_append, gathers_tree, gathers_node, literal_none}
use Rattle.sp_compile.proofs.Spined.{two_parts, two_with, under, topped, first_falls, second_falls, no_larger}
use Rattle.sp_compile.proofs.texts.+add_tree.Goals.{in-Literal+in_ok-add_text, in_default, in-empty, in-len1+in_ok-add_tree-in-len1, in-len2+in_ok-add_tree-in-len2+in_ok-add_tree-in-len2-2}
use Rattle.sp_compile.proofs.texts.+add_tree.Goals as goal

no_parts : (xs : List Tree) → length xs < 1 → xs ≡ []
no_parts [] h = refl
no_parts (x ∷ xs) h = absurd (omega arith)

pub add_tree-requires : goal.add_tree-requires
add_tree-requires t c =
    let d : size-Tree c.args.tree.now ≡ t = c.decreases in
    let parts : (out-Tree c.in_ok-nodes.first.now).parts ≡ c.part-item.result ∷ [] = sym c.as_slice.ensures ∙ one_part c.as_slice.result.now c.part-item.result c.in-len1.len_at_least c.in-len1.len_below c.part-item.is in
    let falls = first_falls c.in_ok-nodes.first.now c.part-item.result [] parts in
    let above = no_larger c.args.tree.now c.in_ok-nodes.nodes.items c.in_ok-nodes.first.now c.in_ok-nodes.ensures in
    omega arith

pub add_tree-requires-in-len2 : goal.add_tree-requires-in-len2
add_tree-requires-in-len2 t c =
    let d : size-Tree c.args.tree.now ≡ t = c.decreases in
    let parts : (out-Tree c.in_ok-nodes.first.now).parts ≡ c.left-item.result ∷ c.right-item.result ∷ [] =
    sym c.as_slice.ensures ∙ two_parts c.as_slice.result.now c.left-item.result c.right-item.result c.in-len2.len_at_least c.in-len2.len_below c.left-item.is c.right-item.is in
    let falls = first_falls c.in_ok-nodes.first.now c.left-item.result (c.right-item.result ∷ []) parts in
    let above = no_larger c.args.tree.now c.in_ok-nodes.nodes.items c.in_ok-nodes.first.now c.in_ok-nodes.ensures in
    omega arith

pub add_tree-requires-in-len2-2 : goal.add_tree-requires-in-len2-2
add_tree-requires-in-len2-2 t c =
    let d : size-Tree c.args.tree.now ≡ t = c.decreases in
    let parts : (out-Tree c.in_ok-nodes.first.now).parts ≡ c.left-item.result ∷ c.right-item.result ∷ [] =
    sym c.as_slice.ensures ∙ two_parts c.as_slice.result.now c.left-item.result c.right-item.result c.in-len2.len_at_least c.in-len2.len_below c.left-item.is c.right-item.is in
    let falls = second_falls c.in_ok-nodes.first.now c.left-item.result c.right-item.result [] parts in
    let above = no_larger c.args.tree.now c.in_ok-nodes.nodes.items c.in_ok-nodes.first.now c.in_ok-nodes.ensures in
    omega arith

pub loop-node-init : goal.loop-node-init
loop-node-init t c =
    let first = c.in_ok-nodes.first.now in
    let before = c.args.texts.now.items in
    let root : c.match-first.texts.items ≡ fold with_text before (literal_of (out-Tree first).node) = elim c.match-first.branch [
      | in-Literal+in_ok-add_text w ↦ ap (λ v. v.items) w.texts-is ∙ w.in_ok-add_text.ensures ∙ ap (λ node. fold with_text before (literal_of node)) (sym w.in-Literal.is)
      | in_default w ↦ ap (λ v. v.items) w.texts-is ∙ ap (fold with_text before) (sym (literal_none (out-Tree first).node w.in_default.not-Literal))
    ] in
    let mid = c.match-first.texts.items in
    let after = c.if-as_slice-lt1.texts.items in
    let parts : Gathers (out-Tree first).parts mid after = elim c.if-as_slice-lt1.branch [
      | in-empty w ↦
          let list : (out-Tree first).parts ≡ [] = sym c.as_slice.ensures ∙ no_parts c.as_slice.result.now w.in-empty.len_below in
          subst (λ l. Gathers l mid after) (sym list) (subst (λ l. Gathers [] mid l) (sym (ap (λ v. v.items) w.texts-is)) (gathers_none mid))
      | in-len1+in_ok-add_tree-in-len1 w ↦
          let list : (out-Tree first).parts ≡ w.part-item.result ∷ [] = sym c.as_slice.ensures ∙ one_part c.as_slice.result.now w.part-item.result w.in-len1.len_at_least w.in-len1.len_below w.part-item.is in
          subst (λ l. Gathers l mid after) (sym list) (subst (λ l. Gathers (w.part-item.result ∷ []) mid l) (sym (ap (λ v. v.items) w.texts-is)) w.in_ok-add_tree-in-len1.ensures)
      | in-len2+in_ok-add_tree-in-len2+in_ok-add_tree-in-len2-2 w ↦
          let list : (out-Tree first).parts ≡ w.left-item.result ∷ w.right-item.result ∷ [] =
          sym c.as_slice.ensures ∙ two_parts c.as_slice.result.now w.left-item.result w.right-item.result w.in-len2.len_at_least w.in-len2.len_below w.left-item.is w.right-item.is in
          let both = gathers_append (w.left-item.result ∷ []) (w.right-item.result ∷ []) mid w.add_tree-in-len2.new.texts.items w.add_tree-in-len2-2.new.texts.items w.in_ok-add_tree-in-len2.ensures w.in_ok-add_tree-in-len2-2.ensures in
          subst (λ l. Gathers l mid after) (sym list) (subst (λ l. Gathers (w.left-item.result ∷ w.right-item.result ∷ []) mid l) (sym (ap (λ v. v.items) w.texts-is)) both)
    ] in
    record { here = first; spine = c.in_ok-nodes.ensures; answer = gathers_tree first before after (subst (λ l. Gathers (out-Tree first).parts l after) root parts) }

pub add_tree-requires-in-Some : goal.add_tree-requires-in-Some
add_tree-requires-in-Some t c =
    let d : size-Tree c.args.tree.now ≡ t = c.decreases in
    let i = c.loop-node.invariant in
    let u = under c.args.tree.now c.pop.new.self.items c.loop-node.nodes.items c.in-Some.node i.here i.spine c.in-Some.ensures.items in
    let right = c.right-item-then-this-lt3-2.result in
    let parts = two_with (out-Tree c.in-Some.node.now).parts i.here u.0 right u.1.1 (subst (λ (xs : List Tree). right ≡ get_or xs 1 right) c.as_slice-in-Some.ensures c.right-item-then-this-lt3-2.is) in
    let falls = second_falls c.in-Some.node.now i.here right [] parts in
    let above = no_larger c.args.tree.now c.pop.new.self.items c.in-Some.node.now u.1.0 in
    omega arith

pub loop-node-preserved : goal.loop-node-preserved
loop-node-preserved t c =
    let node = c.in-Some.node.now in
    let i = c.loop-node.invariant in
    let u = under c.args.tree.now c.pop.new.self.items c.loop-node.nodes.items c.in-Some.node i.here i.spine c.in-Some.ensures.items in
    let right = c.right-item-then-this-lt3-2.result in
    let parts = two_with (out-Tree node).parts i.here u.0 right u.1.1 (subst (λ (xs : List Tree). right ≡ get_or xs 1 right) c.as_slice-in-Some.ensures c.right-item-then-this-lt3-2.is) in
    let plain : literal_of (out-Tree node).node ≡ [] = search rules in
    record { here = node; spine = u.1.0; answer = gathers_node node i.here right _ _ _ parts plain i.answer c.in_ok-add_tree.ensures }

pub returns : goal.returns
returns t c =
    let i = c.loop-node.invariant in
    let whole : vec_len c.loop-node.nodes ≡ length c.loop-node.nodes.items = c.loop-node.nodes.ok.0 in
    let none : length c.loop-node.nodes.items ≡ 0 = grind (arith, common_steps, c.in_default-pop.ensures.variant) in
    subst (λ (k : Tree). Gathers (k ∷ []) c.args.texts.now.items c.loop-node.texts.items) (topped c.args.tree.now c.loop-node.nodes.items i.here i.spine none) i.answer
