use Rattle.std.proofs.Common.{◌∙◌, ◌==◌, [], if◌then◌else◌, ap}
use Rattle.std.specs.Prelude.{string_bytes}
use Rattle.sp_top.proofs.Apart.{taken, left}
use Rattle.sp_top.proofs.Chosen.{chosen}
use Rattle.sp_top.proofs.choosing.crew_of.Goals as goal

pub returns-clause-first : goal.returns-clause-first
returns-clause-first g c =
    taken (λ one. (goal.Predictor-dyn g (one.vtable, one.value)).named one.value) (string_bytes c.args.speed.now.predictor) c.deref-2.result.now c.args.predictors.items
    c.deref.result.now c.in_ok-place.place c.remove-first.result c.deref-2.ensures c.deref.ensures.value c.in_ok-place.ensures.within c.in_ok-place.ensures.first c.remove-first.ensures.value

pub returns-clause-named : goal.returns-clause-named
returns-clause-named g c =
    (chosen (λ one. (goal.Predictor-dyn g (one.vtable, one.value)).named one.value) (string_bytes c.args.speed.now.predictor) c.args.predictors.items c.remove-first.result
    (taken (λ one. (goal.Predictor-dyn g (one.vtable, one.value)).named one.value) (string_bytes c.args.speed.now.predictor) c.deref-2.result.now c.args.predictors.items
    c.deref.result.now c.in_ok-place.place c.remove-first.result c.deref-2.ensures c.deref.ensures.value c.in_ok-place.ensures.within c.in_ok-place.ensures.first c.remove-first.ensures.value)).0

pub returns-clause-rest : goal.returns-clause-rest
returns-clause-rest g c =
    c.followers-rest.ensures
    ∙ ap (λ others. if c.args.speed.now.rotate == 0 then [] else others) (c.remove-first.ensures.items
    ∙ left (λ one. (goal.Predictor-dyn g (one.vtable, one.value)).named one.value) (string_bytes c.args.speed.now.predictor) c.deref-2.result.now c.args.predictors.items
    c.deref.result.now c.in_ok-place.place c.remove-first.result c.deref-2.ensures c.deref.ensures.value c.in_ok-place.ensures.within c.in_ok-place.ensures.others)
