use Rattle.std.proofs.Common.{◌≡◌, ◌+◌, ◌<◌, List, ◌∷◌, length, sym, ap, subst, ◌∙◌, refl, arith, if◌then◌else◌}
use Rattle.slab.specs.Slab.{get, Slab}
use Rattle.sp_store.specs.declared.place.Place.{Place}
use Rattle.sp_store.specs.Places.{IsSound}
use Rattle.sp_store.proofs.Listed.{length_listed}
use Rattle.sp_store.proofs.Steps.{put_sound, at_ok}
use Rattle.sp_store.proofs.store.Store.put.Goals as goal

pub returns-then-live-self-clause-fault : goal.returns-then-live-self-clause-fault
returns-then-live-self-clause-fault g c =
    let s = length_listed (get c.self.inside.slots) c.self.inside.places.items c.self.invariant.keyed in
    rw (← c.self.view_is, s) (c.len-live.ensures ∙ c.self.inside.places.ok.0, refl, c.if-live-self.true, refl)

pub returns-then-is_err-clause-fault : goal.returns-then-is_err-clause-fault
returns-then-is_err-clause-fault g c =
    let s = length_listed (get c.self.inside.slots) c.self.inside.places.items c.self.invariant.keyed in
    let room : length c.self.inside.places.items < c.self.inside.bound = let a = c.len-live.ensures in let b = c.self.inside.places.ok.0 in let d = c.self.invariant.most in let e = c.if-live-self.false in omega arith in
    rw (← c.self.view_is, s) (room, refl)

pub invariant_of-self-in-Ok : goal.invariant_of-self-in-Ok
invariant_of-self-in-Ok g c =
    let room : length c.self.inside.places.items < c.self.inside.bound = let a = c.len-live.ensures in let b = c.self.inside.places.ok.0 in let d = c.self.invariant.most in let e = c.if-live-self.false in omega arith in
    let space = at_ok c.reserve.result _ c.if-is_err.ensures.negation c.reserve.ensures.ok in
    let done = c.insert-in-Ok.ensures.succeeds (omega arith) in
    let p : Place = record { id = c.self.inside.next; key = c.in-Ok.key } in
    let items : c.insert-in-Ok.new.self.items ≡ p ∷ c.self.inside.places.items = c.insert-in-Ok.ensures.items ∙ ap (λ b. if b then (p ∷ c.reserve.new.self.items) else c.reserve.new.self.items) done ∙ ap (λ z. p ∷ z) c.reserve.ensures.items in
    let step = put_sound (get c.self.inside.slots) c.self.inside.next c.self.inside.bound c.self.inside.places.items c.self.invariant (get c.insert.new.self) c.in-Ok.key c.args.value room c.in-Ok.ensures.was_vacant c.in-Ok.ensures.updates.changed c.in-Ok.ensures.updates.others in
    subst (λ (z : List Place). IsSound (get c.insert.new.self) (c.self.inside.next + 1) c.self.inside.bound z) (sym items) step.0

pub returns-in-Ok-clause-stored : goal.returns-in-Ok-clause-stored
returns-in-Ok-clause-stored g c =
    let room : length c.self.inside.places.items < c.self.inside.bound = let a = c.len-live.ensures in let b = c.self.inside.places.ok.0 in let d = c.self.invariant.most in let e = c.if-live-self.false in omega arith in
    let space = at_ok c.reserve.result _ c.if-is_err.ensures.negation c.reserve.ensures.ok in
    let done = c.insert-in-Ok.ensures.succeeds (omega arith) in
    let p : Place = record { id = c.self.inside.next; key = c.in-Ok.key } in
    let items : c.insert-in-Ok.new.self.items ≡ p ∷ c.self.inside.places.items = c.insert-in-Ok.ensures.items ∙ ap (λ b. if b then (p ∷ c.reserve.new.self.items) else c.reserve.new.self.items) done ∙ ap (λ z. p ∷ z) c.reserve.ensures.items in
    let step = put_sound (get c.self.inside.slots) c.self.inside.next c.self.inside.bound c.self.inside.places.items c.self.invariant (get c.insert.new.self) c.in-Ok.key c.args.value room c.in-Ok.ensures.was_vacant c.in-Ok.ensures.updates.changed c.in-Ok.ensures.updates.others in
    rw (← c.self.view_is, items, step.1) refl

pub invariant_of-self-in-Err : goal.invariant_of-self-in-Err
invariant_of-self-in-Err g c =
    subst (λ (s : Slab g.row.V.Denot). IsSound (get s) c.self.inside.next c.self.inside.bound c.reserve.new.self.items) (sym c.in-Err.ensures.err)
    (subst (λ (z : List Place). IsSound (get c.self.inside.slots) c.self.inside.next c.self.inside.bound z) (sym c.reserve.ensures.items) c.self.invariant)

pub returns-in-Err-clause-fault : goal.returns-in-Err-clause-fault
returns-in-Err-clause-fault g c =
    let s = length_listed (get c.self.inside.slots) c.self.inside.places.items c.self.invariant.keyed in
    let room : length c.self.inside.places.items < c.self.inside.bound = let a = c.len-live.ensures in let b = c.self.inside.places.ok.0 in let d = c.self.invariant.most in let e = c.if-live-self.false in omega arith in
    rw (← c.self.view_is, s) (room, c.in-Err.ensures.value_returned)

pub returns-in-Ok-clause-room : goal.returns-in-Ok-clause-room
returns-in-Ok-clause-room g c =
    let s = length_listed (get c.self.inside.slots) c.self.inside.places.items c.self.invariant.keyed in
    let room : length c.self.inside.places.items < c.self.inside.bound = let a = c.len-live.ensures in let b = c.self.inside.places.ok.0 in let d = c.self.invariant.most in let e = c.if-live-self.false in omega arith in
    rw (← c.self.view_is, s) room
