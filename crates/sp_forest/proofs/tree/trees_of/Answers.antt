use Rattle.std.proofs.Common.{◌≡◌, ◌++◌, [], length, map, refl, sym, ◌∙◌, ap, arith}
use Rattle.std.proofs.lemmas.List.Elements.{All-push}
use Rattle.sp_forest.proofs.Passing.{made_more, made_taken}
use Rattle.sp_forest.proofs.tree.trees_of.Goals as goal

pub loop-predictor-preserved : goal.loop-predictor-preserved
loop-predictor-preserved g c =
    let l = c.loop-predictor in
    let rest = c.next.new.self.rest.items in
    let so = ap (λ r. map (λ tree. (goal.Predictor-dyn g (tree.predictor.vtable, tree.predictor.value)).named tree.predictor.value) l.made.items
    ++ map (λ one. (goal.Predictor-dyn g (one.vtable, one.value)).named one.value) r) (sym c.in-Some.ensures.steps.0) ∙ l.invariant.names in
    record {
      names = rw c.in_ok-push.ensures.items
          (made_more (λ tree. (goal.Predictor-dyn g (tree.predictor.vtable, tree.predictor.value)).named tree.predictor.value)
          (λ one. (goal.Predictor-dyn g (one.vtable, one.value)).named one.value) l.made.items _ rest c.in-Some.predictor _ refl so);
      plans = rw c.in_ok-push.ensures.items
          (made_taken (λ tree. tree.plan) l.made.items _ l.predictor-iterator.rest.items rest c.in-Some.predictor l.plans.rest.items c.next-in-loop-predictor.new.self.rest.items _ c.in-Some.ensures.steps.0 c.in-Some-next.ensures.items l.invariant.plans);
      enough = omega (arith, l.invariant.enough, ap length c.in-Some.ensures.steps.0, ap length c.in-Some-next.ensures.items);
      idle = rw c.in_ok-push.ensures.items (All-push (λ tree. tree.parts.items ≡ []) l.made.items _ l.invariant.idle c.new.ensures.items);
    }
