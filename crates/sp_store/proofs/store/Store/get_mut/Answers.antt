use Rattle.std.proofs.Common.{List, sym, subst, ◌∙◌, refl}
use Rattle.std.specs.Option.{ghost_name_of}
use borrow.Follows.Closed.{read_of}
use Rattle.slab.specs.Slab.{get}
use Rattle.slab.specs.Slab.{with_value as slot_written}
use Rattle.slab.proofs.SlabLemmas.{Updates-with_value}
use Rattle.sp_store.specs.declared.place.Place.{Place}
use Rattle.sp_store.specs.Places.{Lacks, HasId}
use Rattle.sp_store.proofs.Steps.{stored, found_at, there, lacks_found, written_at}
use Rattle.sp_store.proofs.store.Store.get_mut.Goals as goal

pub returns-in_err-index : goal.returns-in_err-index
returns-in_err-index g c =
    let lacks = subst (λ (z : List Place). Lacks z c.args.id) c.deref.ensures.value (c.in_err-index.ensures.none refl) in
    rw (c.from_residual.ensures, ← c.self.view_is) (refl, record { writes_back = tt; value = sym (lacks_found (get c.self.inside.slots) c.self.inside.next c.self.inside.bound c.self.inside.places.items c.self.invariant c.args.id lacks) })

pub invariant_of-self-lent : goal.invariant_of-self-lent
invariant_of-self-lent g c = λ _.
    let has = subst (λ (z : List Place). HasId z c.args.id c.in_ok-index.index) c.deref.ensures.value c.in_ok-index.ensures.some in
    let present = there (get c.self.inside.slots) c.self.inside.next c.self.inside.bound c.self.inside.places.items c.self.invariant c.args.id c.in_ok-index.index has c.index.result.now c.index.ensures in (
      λ w.
          let step = Updates-with_value c.self.inside.slots c.index.result.now.key w present in
          (written_at (get c.self.inside.slots) c.self.inside.next c.self.inside.bound c.self.inside.places.items c.self.invariant c.args.id c.in_ok-index.index has c.index.result.now c.index.ensures (get (slot_written c.self.inside.slots c.index.result.now.key w)) w step.changed step.others).1,
      c.self.invariant,
    )

pub returns : goal.returns
returns g c =
    let has = subst (λ (z : List Place). HasId z c.args.id c.in_ok-index.index) c.deref.ensures.value c.in_ok-index.ensures.some in
    let present = there (get c.self.inside.slots) c.self.inside.next c.self.inside.bound c.self.inside.places.items c.self.invariant c.args.id c.in_ok-index.index has c.index.result.now c.index.ensures in
    rw (← c.self.view_is) (
      (λ i. read_of (ghost_name_of c.get_mut.result) (λ w.
          let step = Updates-with_value c.self.inside.slots c.index.result.now.key w present in
          let after = (written_at (get c.self.inside.slots) c.self.inside.next c.self.inside.bound c.self.inside.places.items c.self.invariant c.args.id c.in_ok-index.index has c.index.result.now c.index.ensures (get (slot_written c.self.inside.slots c.index.result.now.key w)) w step.changed step.others).0 in
          record { entries = after i; next = c.self.inside.next; bound = c.self.inside.bound }) (stored (get c.self.inside.slots) c.self.inside.next c.self.inside.bound c.self.inside.places.items c.self.invariant)),
      record { writes_back = tt; value = c.get_mut.ensures.value ∙ sym (found_at (get c.self.inside.slots) c.self.inside.next c.self.inside.bound c.self.inside.places.items c.self.invariant c.args.id c.in_ok-index.index has c.index.result.now c.index.ensures) },
    )
