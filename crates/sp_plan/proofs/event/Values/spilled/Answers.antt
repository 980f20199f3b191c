use Rattle.std.proofs.Common.{◌++◌, ◌∷◌, [], List, Vec, Global, sym, ◌∙◌, ap}
use Rattle.sp_plan.specs.declared.event.Value.{Value}
use Rattle.sp_plan.proofs.Parts.{got_more, got_none}
use Rattle.sp_plan.proofs.event.Values.spilled.Goals as goal
use Rattle.sp_plan.proofs.event.Values.spilled.Goals.{in-Some+in_ok-push, in_default}

pub loop-place-preserved : goal.loop-place-preserved
loop-place-preserved c =
    let xs = c.args.self.now in
    let i = c.loop-place.place in
    elim c.match-get.branch [
      | in-Some+in_ok-push w ↦
          ap (λ (v : Vec Value Global). v.items) w.values-is ∙ w.in_ok-push.ensures.items
          ∙ ap (λ (l : List Value). l ++ w.in-Some.own ∷ []) c.loop-place.invariant
          ∙ sym (got_more i xs w.in-Some.own (sym c.get.ensures ∙ w.in-Some.is))
      | in_default w ↦
          ap (λ (v : Vec Value Global). v.items) w.values-is ∙ c.loop-place.invariant
          ∙ sym (got_none i xs (sym c.get.ensures ∙ w.in_default.is))
    ]
