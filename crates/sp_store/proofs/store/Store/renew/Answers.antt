use Rattle.std.proofs.Common.{◌≡◌, ◌+◌, List, ◌∷◌, remove, sym, ap, subst, ◌∙◌, refl, arith, if◌then◌else◌}
use Rattle.slab.specs.Slab.{get}
use Rattle.sp_store.specs.declared.place.Place.{Place}
use Rattle.sp_store.specs.Places.{Lacks, HasId, IsSound}
use Rattle.sp_store.proofs.Steps.{lacks_answer, lacks_renewed, renewed_sound, renewed_at, renewed_answer}
use Rattle.sp_store.proofs.store.Store.renew.Goals as goal

pub returns-in_err-index-clause-id : goal.returns-in_err-index-clause-id
returns-in_err-index-clause-id g c =
    let lacks = subst (λ (z : List Place). Lacks z c.args.id) c.deref.ensures.value (c.in_err-index.ensures.none refl) in
    rw (← c.self.view_is) (c.from_residual.ensures ∙ lacks_answer (get c.self.inside.slots) c.self.inside.next c.self.inside.bound c.self.inside.places.items c.self.invariant c.args.id lacks)

pub returns-in_err-index-clause-entries : goal.returns-in_err-index-clause-entries
returns-in_err-index-clause-entries g c =
    let lacks = subst (λ (z : List Place). Lacks z c.args.id) c.deref.ensures.value (c.in_err-index.ensures.none refl) in
    rw (← c.self.view_is) (lacks_renewed (get c.self.inside.slots) c.self.inside.next c.self.inside.bound c.self.inside.places.items c.self.invariant c.args.id lacks)

pub returns-clause-id : goal.returns-clause-id
returns-clause-id g c =
    let has = subst (λ (z : List Place). HasId z c.args.id c.in_ok-index.index) c.deref.ensures.value c.in_ok-index.ensures.some in
    rw (← c.self.view_is) (renewed_answer (get c.self.inside.slots) c.self.inside.next c.self.inside.bound c.self.inside.places.items c.self.invariant c.args.id c.in_ok-index.index has c.remove-key.result c.remove-key.ensures.value)

pub invariant_of-self : goal.invariant_of-self
invariant_of-self g c =
    let has = subst (λ (z : List Place). HasId z c.args.id c.in_ok-index.index) c.deref.ensures.value c.in_ok-index.ensures.some in
    let cap = c.remove-key.ensures.capacity in let len = c.remove-key.ensures.len in let ok = c.self.inside.places.ok.1 in
    let done = c.insert.ensures.succeeds (omega arith) in
    let p : Place = record { id = c.self.inside.next; key = c.remove-key.result.key } in
    let items : c.insert.new.self.items ≡ p ∷ remove c.self.inside.places.items c.in_ok-index.index = c.insert.ensures.items ∙ ap (λ b. if b then (p ∷ c.remove-key.new.self.items) else c.remove-key.new.self.items) done ∙ ap (λ z. p ∷ z) c.remove-key.ensures.items in
    subst (λ (z : List Place). IsSound (get c.self.inside.slots) (c.self.inside.next + 1) c.self.inside.bound z) (sym items)
    (renewed_sound (get c.self.inside.slots) c.self.inside.next c.self.inside.bound c.self.inside.places.items c.self.invariant c.args.id c.in_ok-index.index has c.remove-key.result c.remove-key.ensures.value)

pub returns-clause-entries : goal.returns-clause-entries
returns-clause-entries g c =
    let has = subst (λ (z : List Place). HasId z c.args.id c.in_ok-index.index) c.deref.ensures.value c.in_ok-index.ensures.some in
    let cap = c.remove-key.ensures.capacity in let len = c.remove-key.ensures.len in let ok = c.self.inside.places.ok.1 in
    let done = c.insert.ensures.succeeds (omega arith) in
    let p : Place = record { id = c.self.inside.next; key = c.remove-key.result.key } in
    let items : c.insert.new.self.items ≡ p ∷ remove c.self.inside.places.items c.in_ok-index.index = c.insert.ensures.items ∙ ap (λ b. if b then (p ∷ c.remove-key.new.self.items) else c.remove-key.new.self.items) done ∙ ap (λ z. p ∷ z) c.remove-key.ensures.items in
    rw (← c.self.view_is, items) (renewed_at (get c.self.inside.slots) c.self.inside.next c.self.inside.bound c.self.inside.places.items c.self.invariant c.args.id c.in_ok-index.index has c.remove-key.result c.remove-key.ensures.value)
