use Rattle.std.proofs.Common.{◌∙◌, sym, ap, arith}
use Rattle.std.specs.Str.{bytes_eq}
use Rattle.sp_top.proofs.Apart.{first_at, others_at}
use Rattle.sp_top.proofs.choosing.place_of_name.Goals as goal

pub returns-then-is_named-clause-first : goal.returns-then-is_named-clause-first
returns-then-is_named-clause-first g c =
    let x = c.index-predictors-i.result in
    first_at (λ one. bytes_eq ((goal.Predictor-dyn g (one.vtable, one.value)).named one.value) c.args.name.now) c.args.predictors.now c.loop-i.i x (omega arith)
    (ap (λ one. bytes_eq ((goal.Predictor-dyn g (one.vtable, one.value)).named one.value) c.args.name.now) (sym c.index-predictors-i.is) ∙ sym c.is_named.ensures ∙ c.if-is_named.true)
    ∙ sym c.loop-i.invariant.first

pub returns-then-is_named-clause-others : goal.returns-then-is_named-clause-others
returns-then-is_named-clause-others g c =
    let x = c.index-predictors-i.result in
    others_at (λ one. bytes_eq ((goal.Predictor-dyn g (one.vtable, one.value)).named one.value) c.args.name.now) c.args.predictors.now c.loop-i.i x (omega arith)
    (ap (λ one. bytes_eq ((goal.Predictor-dyn g (one.vtable, one.value)).named one.value) c.args.name.now) (sym c.index-predictors-i.is) ∙ sym c.is_named.ensures ∙ c.if-is_named.true)
    ∙ sym c.loop-i.invariant.others
