use Rattle.std.proofs.Common.{rules, ◌≡◌, ◌+◌, [], ◌∷◌, ◌++◌, vec_len, subst, sym}
use Rattle.std.specs.Arc.{arc_value}
use Rattle.std.specs.List.{All}
use Rattle.std.proofs.lemmas.List.Elements.{All-append, All-cons, All-nil}
use Rattle.sp_load.specs.Places.{text_of}
use Rattle.sp_load.specs.Queries.{IsPlanFor}
use Rattle.sp_top.proofs.plans.own_plans.Goals as goal

pub loop-preserved : goal.loop-preserved
loop-preserved c =
    let items : c.push.new.self.items ≡ c.loop.own.items ++ c.in_ok-plan.plan ∷ [] = search rules in
    let many : vec_len c.push.new.self ≡ c.loop.counter + 1 = search rules in (
      subst (All (λ plan. IsPlanFor (text_of c.args.text.now) (arc_value plan))) (sym items)
          (All-append (λ plan. IsPlanFor (text_of c.args.text.now) (arc_value plan)) c.loop.own.items (c.in_ok-plan.plan ∷ []) c.loop.invariant.0
          (All-cons (λ plan. IsPlanFor (text_of c.args.text.now) (arc_value plan)) c.in_ok-plan.plan [] c.in_ok-plan.ensures.plan (All-nil (λ plan. IsPlanFor (text_of c.args.text.now) (arc_value plan))))),
      many,
    )
