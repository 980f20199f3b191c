use Rattle.std.proofs.Common.{List, sym, subst, ◌∙◌, refl}
use Rattle.slab.specs.Slab.{get}
use Rattle.sp_store.specs.declared.place.Place.{Place}
use Rattle.sp_store.specs.Places.{Lacks, HasId, IsSound}
use Rattle.sp_store.proofs.Steps.{found_at, lacks_found, lacks_left, taken}
use Rattle.sp_store.proofs.store.Store.take.Goals as goal

pub returns-in_err-index-clause-value : goal.returns-in_err-index-clause-value
returns-in_err-index-clause-value g c =
    let lacks = subst (λ (z : List Place). Lacks z c.args.id) c.deref.ensures.value (c.in_err-index.ensures.none refl) in
    rw (← c.self.view_is) (c.from_residual.ensures ∙ sym (lacks_found (get c.self.inside.slots) c.self.inside.next c.self.inside.bound c.self.inside.places.items c.self.invariant c.args.id lacks))

pub returns-in_err-index-clause-rest : goal.returns-in_err-index-clause-rest
returns-in_err-index-clause-rest g c =
    let lacks = subst (λ (z : List Place). Lacks z c.args.id) c.deref.ensures.value (c.in_err-index.ensures.none refl) in
    rw (← c.self.view_is) (lacks_left (get c.self.inside.slots) c.self.inside.next c.self.inside.bound c.self.inside.places.items c.self.invariant c.args.id lacks)

pub invariant_of-self : goal.invariant_of-self
invariant_of-self g c =
    let has = subst (λ (z : List Place). HasId z c.args.id c.in_ok-index.index) c.deref.ensures.value c.in_ok-index.ensures.some in
    subst (λ (z : List Place). IsSound (get c.try_remove.new.self) c.self.inside.next c.self.inside.bound z) (sym c.remove-place.ensures.items)
    (taken (get c.self.inside.slots) c.self.inside.next c.self.inside.bound c.self.inside.places.items c.self.invariant c.args.id c.in_ok-index.index has c.remove-place.result c.remove-place.ensures.value (get c.try_remove.new.self) c.try_remove.ensures.updates.others).0

pub returns-clause-value : goal.returns-clause-value
returns-clause-value g c =
    let has = subst (λ (z : List Place). HasId z c.args.id c.in_ok-index.index) c.deref.ensures.value c.in_ok-index.ensures.some in
    rw (← c.self.view_is) (c.try_remove.ensures.value ∙ sym (found_at (get c.self.inside.slots) c.self.inside.next c.self.inside.bound c.self.inside.places.items c.self.invariant c.args.id c.in_ok-index.index has c.remove-place.result c.remove-place.ensures.value))

pub returns-clause-rest : goal.returns-clause-rest
returns-clause-rest g c =
    let has = subst (λ (z : List Place). HasId z c.args.id c.in_ok-index.index) c.deref.ensures.value c.in_ok-index.ensures.some in
    let step = taken (get c.self.inside.slots) c.self.inside.next c.self.inside.bound c.self.inside.places.items c.self.invariant c.args.id c.in_ok-index.index has c.remove-place.result c.remove-place.ensures.value (get c.try_remove.new.self) c.try_remove.ensures.updates.others in
    rw (← c.self.view_is, c.remove-place.ensures.items, step.1) refl
