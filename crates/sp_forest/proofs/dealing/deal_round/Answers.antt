use Rattle.std.proofs.Common.{◌≡◌, ◌+◌, ◌<◌, ℕ, zero, suc, false, length, map, vec_len, refl, sym, ◌∙◌, ap, arith, length-drop}
use Rattle.std.specs.Prelude.{nat_eq}
use Rattle.std.proofs.lemmas.List.{length-map}
use Rattle.sp_forest.proofs.Weaving.{dealt_none, dealt_on, none_has}
use Rattle.sp_forest.proofs.dealing.deal_round.Goals as goal

not_none : (n : ℕ) → nat_eq n 0 ≡ false → 0 < n
not_none zero is = absurd (cc is)
not_none (suc n) is = omega arith

pub loop-waiting-init : goal.loop-waiting-init
loop-waiting-init g c =
    let waiting = c.args.waiting.now in
    let left = c.deal_group.new.waiting in
    let trees = c.args.trees.now in
    let dealt = c.in_ok-deal_group.ensures in
    let many = trees.ok.0 ∙ sym (length-map trees.items (λ tree. tree.parts.items)) in
    let names = ap length dealt.names in
    let before = length-map trees.items (λ tree. (goal.Predictor-dyn g (tree.predictor.vtable, tree.predictor.value)).named tree.predictor.value) in
    let after = length-map c.deal_group.new.trees.items (λ tree. (goal.Predictor-dyn g (tree.predictor.vtable, tree.predictor.value)).named tree.predictor.value) in
    record {
      dealt = dealt_on waiting.items 0 1 (vec_len trees) (map (λ tree. tree.parts.items) trees.items) (map (λ tree. tree.parts.items) c.deal_group.new.trees.items) waiting.items left.items refl
          (dealt_none waiting.items (map (λ tree. tree.parts.items) trees.items) (none_has (λ tree. tree.parts.items) trees.items c.requires.idle))
          (omega (arith, waiting.ok.0, c.requires.some)) dealt.dealt many dealt.left;
      fewer = omega (arith, waiting.ok.0, left.ok.0, ap length dealt.left, length-drop (vec_len trees) waiting.items, c.requires.some, c.requires.trees);
      some = omega arith;
      size = c.deal_group.new.trees.ok.0 ∙ sym after ∙ names ∙ before ∙ sym trees.ok.0 ∙ sym c.len-count.ensures;
      trees = omega (arith, c.len-count.ensures, c.requires.trees);
      names = dealt.names;
      plans = dealt.plans;
    }

pub loop-waiting-preserved : goal.loop-waiting-preserved
loop-waiting-preserved g c =
    let l = c.loop-waiting in
    let left = c.deal_group-in-loop-waiting.new.waiting in
    let trees = l.trees in
    let dealt = c.in_ok-deal_group-2.ensures in
    let many = trees.ok.0 ∙ sym (length-map trees.items (λ tree. tree.parts.items)) in
    let names = ap length dealt.names in
    let before = length-map trees.items (λ tree. (goal.Predictor-dyn g (tree.predictor.vtable, tree.predictor.value)).named tree.predictor.value) in
    let after = length-map c.deal_group-in-loop-waiting.new.trees.items (λ tree. (goal.Predictor-dyn g (tree.predictor.vtable, tree.predictor.value)).named tree.predictor.value) in
    let some : 0 < length l.waiting.items = omega (arith, l.waiting.ok.0, not_none _ (sym c.is_empty.ensures ∙ c.loop-waiting-test.true)) in
    record {
      dealt = dealt_on c.args.waiting.now.items l.groups (l.groups + 1) (vec_len trees) (map (λ tree. tree.parts.items) trees.items) (map (λ tree. tree.parts.items) c.deal_group-in-loop-waiting.new.trees.items) l.waiting.items left.items (omega arith)
          l.invariant.dealt some dealt.dealt many dealt.left;
      fewer = omega (arith, l.invariant.fewer, l.waiting.ok.0, left.ok.0, ap length dealt.left, length-drop (vec_len trees) l.waiting.items, l.invariant.size, l.invariant.trees);
      some = omega arith;
      size = c.deal_group-in-loop-waiting.new.trees.ok.0 ∙ sym after ∙ names ∙ before ∙ sym trees.ok.0 ∙ l.invariant.size;
      trees = l.invariant.trees;
      names = dealt.names ∙ l.invariant.names;
      plans = dealt.plans ∙ l.invariant.plans;
    }
