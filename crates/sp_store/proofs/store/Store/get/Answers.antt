use Rattle.std.proofs.Common.{List, option_copied, sym, ap, subst, ◌∙◌, refl}
use Rattle.slab.specs.Slab.{get}
use Rattle.sp_store.specs.declared.place.Place.{Place}
use Rattle.sp_store.specs.Places.{Lacks, HasId}
use Rattle.sp_store.proofs.Steps.{found_at, lacks_found}
use Rattle.sp_store.proofs.store.Store.get.Goals as goal

pub returns-in_err-index : goal.returns-in_err-index
returns-in_err-index g c =
    let lacks = subst (λ (z : List Place). Lacks z c.args.id) c.deref.ensures.value (c.in_err-index.ensures.none refl) in
    rw (← c.self.view_is) (ap option_copied c.from_residual.ensures ∙ sym (lacks_found (get c.self.inside.slots) c.self.inside.next c.self.inside.bound c.self.inside.places.items c.self.invariant c.args.id lacks))

pub returns : goal.returns
returns g c =
    let has = subst (λ (z : List Place). HasId z c.args.id c.in_ok-index.index) c.deref.ensures.value c.in_ok-index.ensures.some in
    rw (← c.self.view_is) (c.get.ensures ∙ sym (found_at (get c.self.inside.slots) c.self.inside.next c.self.inside.bound c.self.inside.places.items c.self.invariant c.args.id c.in_ok-index.index has c.index.result.now c.index.ensures))
