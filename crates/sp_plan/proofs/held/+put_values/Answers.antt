use Rattle.std.proofs.Common.{rules, ◌≡◌, ◌+◌, ◌<◌, List, [], ◌∷◌, ◌++◌, sym, ap, subst, ◌∙◌, inl, inr, arith, length-append, length, w64, to_z, of_z}
use Rattle.std.specs.Option.{option_copied, option_to_list}
use Rattle.std.proofs.lemmas.Result.{on_ok_weaker}
use Rattle.sp_plan.specs.declared.plan.Expr.{Expr}
use Rattle.sp_plan.specs.declared.plan.Pred.{Pred, size-Pred}
use Rattle.sp_plan.specs.Held.{held_sides}
use Rattle.sp_plan.proofs.PutColumns.{IsPut, put_last, put_right}
use Rattle.sp_plan.proofs.Sizes.{in_and, in_or}
use Rattle.sp_plan.proofs.held.+put_values.Goals as goal

pub returns-in-Some-clause-put : goal.returns-in-Some-clause-put
returns-in-Some-clause-put t c = λ bounds front back is place.
    let b = c.args.bound.now in
    let whole = held_sides c.args.pred.now in
    let side = c.in-Some.side.now in
    let sides : held_sides c.loop-rest.rest.now ≡ side ∷ [] = ap held_sides c.in-Test.is ∙ sym c.held_side.ensures ∙ ap (λ o. option_to_list (option_copied o)) c.in-Some.is in
    let before : IsPut c.args.run b bounds front back whole (side ∷ []) c.loop-rest.next c.loop-rest.columns =
    subst (λ (ss : List Expr). IsPut c.args.run b bounds front back whole ss c.loop-rest.next c.loop-rest.columns) sides (c.loop-rest.invariant.put bounds front back is place) in
    let same : to_z w64 (of_z w64 c.held_value.result) ≡ c.held_value.result = search rules in
    on_ok_weaker c.put_at.result (λ new. new ∙ put_last c.args.run b bounds front back whole side c.loop-rest.columns c.loop-rest.next (to_z w64 (of_z w64 c.held_value.result)) before (same ∙ c.held_value.ensures)) c.put_at.ensures.put

pub loop-rest-preserved : goal.loop-rest-preserved
loop-rest-preserved t c =
    let right = c.in-And.right in
    let left = c.in-And.left in
    let rest = c.loop-rest.rest.now in
    let sides : held_sides rest ≡ held_sides right.value ++ held_sides left.value = elim c.in-And.is [
      | inl is ↦ ap held_sides is
      | inr is ↦ ap held_sides is
    ] in
    let falls : size-Pred left.value < size-Pred rest = elim c.in-And.is [
      | inl is ↦ subst (λ (p : Pred). size-Pred left.value < size-Pred p) (sym is) (in_and left right)
      | inr is ↦ subst (λ (p : Pred). size-Pred left.value < size-Pred p) (sym is) (in_or left right)
    ] in
    let both : length (held_sides rest) ≡ length (held_sides right.value) + length (held_sides left.value) = ap length sides ∙ length-append (held_sides right.value) (held_sides left.value) in
    let behind = rw c.deref.ensures at c.in_ok-next-in-And.ensures.behind in
    record {
      within = search rules;
      shallow = let before = c.loop-rest.invariant.shallow in rw c.deref-rest-in-And.ensures (omega arith);
      behind = let total = c.loop-rest.invariant.behind in rw c.deref-rest-in-And.ensures (omega arith);
      size = c.put_values.ensures.size ∙ c.loop-rest.invariant.size;
      put = λ bounds front back is place.
          let whole = held_sides c.args.pred.now in
          let before : IsPut c.args.run c.args.bound.now bounds front back whole (held_sides right.value ++ held_sides left.value) c.loop-rest.next c.loop-rest.columns =
          subst (λ (ss : List Expr). IsPut c.args.run c.args.bound.now bounds front back whole ss c.loop-rest.next c.loop-rest.columns) sides (c.loop-rest.invariant.put bounds front back is place) in
          let called = rw c.deref.ensures at (c.in_ok-next-in-And.ensures.put bounds) in
          rw c.deref-rest-in-And.ensures (put_right c.args.run c.args.bound.now bounds front back whole (held_sides right.value) (held_sides left.value) c.loop-rest.columns c.put_values.new.columns c.loop-rest.next c.in_ok-next-in-And.next before called behind);
    }
