use Rattle.std.proofs.Common.{rules, ◌∙◌}
use Rattle.slab.specs.Slab.{get}
use Rattle.sp_store.proofs.Listed.{length_listed, fall_listed}
use Rattle.sp_store.proofs.store.Store.live.Goals as goal

pub overflow_cast-result : goal.overflow_cast-result
overflow_cast-result g c = let a = c.len.ensures in let b = c.self.invariant.most in let d = c.self.invariant.few in let o = c.self.inside.places.ok in search rules

pub returns-clause-live : goal.returns-clause-live
returns-clause-live g c = let s = length_listed (get c.self.inside.slots) c.self.inside.places.items c.self.invariant.keyed in rw (← c.self.view_is, s) (c.len.ensures ∙ c.self.inside.places.ok.0)

pub returns-clause-listed : goal.returns-clause-listed
returns-clause-listed g c = let s = length_listed (get c.self.inside.slots) c.self.inside.places.items c.self.invariant.keyed in rw (← c.self.view_is) record {
  fall = fall_listed (get c.self.inside.slots) c.self.inside.next c.self.inside.places.items c.self.invariant.falls c.self.invariant.keyed;
  most = rw s c.self.invariant.most;
}
