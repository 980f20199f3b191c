use Rattle.std.proofs.Common.{◌∙◌, ◌-◌, Some, take, ap, arith}
use Rattle.std.specs.Prelude.{string_bytes, vec_len}
use Rattle.std.specs.Str.{bytes_eq}
use Rattle.sp_top.proofs.Apart.{brought, taken, left}
use Rattle.sp_top.proofs.choosing.predictors_of.Goals as goal

pub returns-clause-chosen : goal.returns-clause-chosen
returns-clause-chosen g c =
    let xs = c.args.predictors.items in
    let name = string_bytes c.args.speed.now.predictor in
    let removed = c.remove-first.new.self in
    let pushed = c.push_reserved.new.self in
    ap (λ list. Some list) (c.truncate.ensures.items ∙ ap (λ list. take c.args.trees list) c.rotate_right.ensures.items)
    ∙ brought (λ one. bytes_eq ((goal.Predictor-dyn g (one.vtable, one.value)).named one.value) name) c.args.trees xs (search arith) c.remove-first.result
    (taken (λ one. (goal.Predictor-dyn g (one.vtable, one.value)).named one.value) name c.deref-2.result.now xs c.deref.result.now c.in_ok-place.place c.remove-first.result
    c.deref-2.ensures c.deref.ensures.value c.in_ok-place.ensures.within c.in_ok-place.ensures.first c.remove-first.ensures.value)
    removed.items (c.remove-first.ensures.items
    ∙ left (λ one. (goal.Predictor-dyn g (one.vtable, one.value)).named one.value) name c.deref-2.result.now xs c.deref.result.now c.in_ok-place.place c.remove-first.result
    c.deref-2.ensures c.deref.ensures.value c.in_ok-place.ensures.within c.in_ok-place.ensures.others)
    pushed.items c.push_reserved.ensures.items (vec_len pushed - 1) (search arith)
