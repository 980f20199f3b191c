-- Where there is work, a step that goes on is accepted.
use Rattle.std.proofs.Common.{◌≡◌, ℕ, zero, suc, ◌+◌, ◌<◌, ◌≤◌, ◌⊎◌, Bool, true, false, cond, not, ◌||◌, ◌==◌, nat_lt, nat_le, List, [], ◌∷◌, Option, Some, None, inl, inr, ⊎_elim, refl, sym, ap, subst, arith}
use Rattle.std.proofs.lemmas.Bool.Decides.{nat_tests}
use Rattle.sp_plan.specs.declared.plan.Plan.{Plan}
use Rattle.sp_plan.specs.Windows.{closed}
use Rattle.sp_plan.specs.WindowNumbers.{count, first, size}
use Rattle.sp_group.specs.declared.refusal.Refusal.{Refusal}
use Rattle.sp_group.specs.declared.refusal.Refusal.TheVariants as r
use Rattle.sp_group.specs.declared.step.Step.TheVariants as s
use Rattle.sp_group.specs.Rising.{least}
use Rattle.sp_group.specs.Machine.{Version, Ticket, Machine, version_at, ticket_at, out_for, is_out, root_in, is_hit, conflict, inner}
use Rattle.sp_group.specs.Refusing.{refuse_if, refuse_for, id_of, has_nothing_to_read, lease_refusal, return_refusal, finish_refusal, refusal}
use Rattle.sp_rules.specs.Kept.{NewestFirst, Kept}
use Rattle.sp_rules.specs.Schedules.{IsReturning, GoesOn, HasWork}
use Rattle.sp_rules.proofs.Locals.{root_is, rootless}

-- nothing is refused where the cause does not hold and the rest refuses nothing
open_if : (b : Bool) (why : Refusal) (rest : Option Refusal) → b ≡ false → rest ≡ None → refuse_if b why rest ≡ None
open_if true why rest h k = absurd (cc)
open_if false why rest h k = k

open_for : (o : Option ℕ) (why : ℕ → Refusal) (rest : Option Refusal) → o ≡ None → rest ≡ None → refuse_for o why rest ≡ None
open_for (Some n) why rest h k = absurd (cc)
open_for None why rest h k = k

least_nothing : (p : ℕ → Bool) (a n : ℕ) → ((i : ℕ) → p i ≡ true → ⊥) → least p a n ≡ None
least_nothing p a zero h = refl
least_nothing p a (suc n) h = one (p a) refl (least_nothing p (a + 1) n h)
  where
    one : (b : Bool) → p a ≡ b → least p (a + 1) n ≡ None → cond b (Some a) (least p (a + 1) n) ≡ None
    one true is k = absurd (h a is)
    one false is k = k

-- the root is in no conflict
pub root_clear : (q : Plan) (m : Machine) → Kept q m → (v : Version) → root_in m.versions ≡ Some v → conflict q m v ≡ None
root_clear q m h v e =
    let is = root_is q (inner q m.events) m.finished m.versions h.sane.shape v e in
    least_nothing (is_hit q m v) (first q m.events v.window) (size q m.events v.window) (h.clear v.id v is.0 is.1)

out_none : (ts : List Ticket) (id : ℕ) → is_out ts id ≡ false → out_for ts id ≡ None
out_none [] id h = refl
out_none (x ∷ ts) id h = one (x.version == id) h (out_none ts id)
  where
    one : (b : Bool) → (b || is_out ts id) ≡ false → (is_out ts id ≡ false → out_for ts id ≡ None) → cond b (Some x.number) (out_for ts id) ≡ None
    one true h k = absurd (cc)
    one false h k = k h

-- the ticket that is out for a version
at_out : (ts : List Ticket) → NewestFirst ts → (id : ℕ) → is_out ts id ≡ true → (t : Ticket) × (ticket_at ts t.number ≡ Some t) × (t.version ≡ id)
at_out [] o id h = absurd (cc)
at_out (x ∷ ts) o id h = one (x.version == id) refl h (at_out ts o.1 id)
  where
    one : (b : Bool) → (x.version == id) ≡ b → (b || is_out ts id) ≡ true → (is_out ts id ≡ true → (t : Ticket) × (ticket_at ts t.number ≡ Some t) × (t.version ≡ id)) → (t : Ticket) × (ticket_at (x ∷ ts) t.number ≡ Some t) × (t.version ≡ id)
    one true e h k = (x, grind (arith, nat_tests), grind (arith, nat_tests))
    one false e h k =
        let found = k h in
        let older = o.0 found.0.number found.0 found.1 in
        (found.0, grind (arith, nat_tests, found.1), found.2)

pub goes_on : (q : Plan) (bound : ℕ) (m : Machine) → Kept q m → HasWork q m → GoesOn q bound m
goes_on q bound m h work = one (root_in m.versions) refl
  where
    one : (o : Option Version) → root_in m.versions ≡ o → GoesOn q bound m
    one None e = inl (rootless q (inner q m.events) m.finished m.versions h.sane.shape e, spawns)
      where
        spawns : refusal q bound m (s.Spawn None []) ≡ None
        spawns =
            let there = work.0 in
            let open_window : nat_lt (count q m.events) (m.finished + 1) ≡ false = grind (arith, nat_tests) in
            open_for (id_of (root_in m.versions)) r.LabelTaken (refuse_if (nat_lt (count q m.events) (m.finished + 1)) (r.NoWindow (m.finished + 1)) None) (ap id_of e)
            (open_if (nat_lt (count q m.events) (m.finished + 1)) (r.NoWindow (m.finished + 1)) None open_window refl)
    one (Some v) e = inr (v, e, by_done v.done refl)
      where
        at : version_at m.versions v.id ≡ Some v
        at = (root_is q (inner q m.events) m.finished m.versions h.sane.shape v e).0

        busy : v.done ≡ false → has_nothing_to_read q m v ≡ false
        busy d = ⊎_elim
            (λ (x : v.window ≤ closed q m.events m.ended). let y : nat_lt (closed q m.events m.ended) v.window ≡ false = grind (arith, nat_tests) in grind (arith, d, y))
            (λ (x : v.position < size q m.events v.window). let y : nat_le (size q m.events v.window) v.position ≡ false = grind (arith, nat_tests) in grind (arith, y))
            (work.1 v e)

        leases : v.done ≡ false → is_out m.tickets v.id ≡ false → (n : ℕ) → lease_refusal q m v.id (version_at m.versions v.id) ≡ None
        leases d o n = subst (λ (z : Option Version). lease_refusal q m v.id z ≡ None) (sym at)
            (open_for (out_for m.tickets v.id) r.Out (refuse_for (conflict q m v) r.Conflict (refuse_if (has_nothing_to_read q m v) (r.NothingToRead v.position) None)) (out_none m.tickets v.id o)
            (open_for (conflict q m v) r.Conflict (refuse_if (has_nothing_to_read q m v) (r.NothingToRead v.position) None) (root_clear q m h v e)
            (open_if (has_nothing_to_read q m v) (r.NothingToRead v.position) None (busy d) refl)))

        returning : (t : Ticket) → ticket_at m.tickets t.number ≡ Some t → t.version ≡ v.id → IsReturning q bound m v
        returning t is mine = record { ticket = t; is = is; of = mine; returns = subst (λ (z : Option Ticket). return_refusal t.number z ≡ None) (sym is) refl }

        finishes : v.done ≡ true → finish_refusal m (root_in m.versions) ≡ None
        finishes d = subst (λ (z : Option Version). finish_refusal m z ≡ None) (sym e) (open_if (not v.done) (r.NotDone m.finished) None (ap not d) refl)

        by_ticket : (b : Bool) → is_out m.tickets v.id ≡ b → v.done ≡ false → ((n : ℕ) → refusal q bound m (s.Lease v.id n) ≡ None) ⊎ IsReturning q bound m v ⊎ (refusal q bound m s.Finish ≡ None)
        by_ticket true o d = let found = at_out m.tickets h.sane.newest_first v.id o in inr (inl (returning found.0 found.1 found.2))
        by_ticket false o d = inl (leases d o)

        by_done : (b : Bool) → v.done ≡ b → ((n : ℕ) → refusal q bound m (s.Lease v.id n) ≡ None) ⊎ IsReturning q bound m v ⊎ (refusal q bound m s.Finish ≡ None)
        by_done true d = inr (inr (finishes d))
        by_done false d = by_ticket (is_out m.tickets v.id) refl d
