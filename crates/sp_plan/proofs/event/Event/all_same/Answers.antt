use Rattle.std.proofs.Common.{◌≡◌, List, ◌++◌, ◌∷◌, [], take, get_or, sym, ap, ◌∙◌, refl, arith}
use Rattle.std.proofs.lemmas.List.{take_more, take_all}
use Rattle.sp_plan.specs.declared.event.Event.{Event}
use Rattle.sp_plan.proofs.event.Event.all_same.Goals as goal

pub loop-i-init : goal.loop-i-init
loop-i-init c = refl

pub loop-i-preserved : goal.loop-i-preserved
loop-i-preserved c =
    let xs = c.args.events.now in
    let ys = c.args.others.now in
    let i = c.loop-i.i in
    let d = c.index-events-i.result in
    let e = c.index-others-i.result in
    let same : d ≡ e = c.same.ensures.0 c.if-not-same.false in
    let few = c.loop-i-test.true in
    let lengths = c.if-events-others.false in
    take_more xs i d few
    ∙ ap (λ (l : List Event). l ++ get_or xs i d ∷ []) c.loop-i.invariant
    ∙ ap (λ (x : Event). take i ys ++ x ∷ []) (sym c.index-events-i.is ∙ same ∙ c.index-others-i.is)
    ∙ sym (take_more ys i e (omega arith))

pub returns : goal.returns
returns c =
    let xs = c.args.events.now in
    let ys = c.args.others.now in
    let i = c.loop-i.i in
    let most = c.loop-i-test.false in
    let lengths = c.if-events-others.false in
    (λ t. sym (take_all i xs most) ∙ c.loop-i.invariant ∙ take_all i ys (omega arith), λ e. refl)
