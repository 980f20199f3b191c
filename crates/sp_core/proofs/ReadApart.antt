-- Machines that differ in how far their tickets are read alone: a step that neither reads nor returns is refused, does and answers the same.
use Rattle.std.proofs.Common.{◌≡◌, ℕ, Bool, true, false, ◌==◌, cond, ◌&&◌, ◌||◌, List, [], ◌∷◌, map, Option, Some, None, is_some, not, refl, ap, ◌∙◌}
use Rattle.sp_plan.specs.WindowNumbers.{first, size}
use Rattle.sp_plan.specs.declared.plan.Plan.{Plan}
use Rattle.sp_group.specs.declared.refusal.Refusal.TheVariants as r
use Rattle.sp_group.specs.declared.step.Step.{Step}
use Rattle.sp_group.specs.declared.step.Step.TheVariants as s
use Rattle.sp_group.specs.Machine.{Machine, Ticket, Version, conflict, is_bare, is_lent, is_read, is_suppressed, out_for, root_in, ticket_at, version_at}
use Rattle.sp_group.specs.Refusing.{id_of, has_nothing_to_read, lease_refusal, refusal, refuse_for, refuse_if, roll_refusal}
use Rattle.sp_group.specs.Effects.{any_spawned, child_spawned, effect, finished_one, new_matches, popped, rolled, settled}
use Rattle.sp_group.specs.Seen.{version_seen}
use Rattle.sp_group.specs.Steps as steps
use Rattle.sp_group.specs.Steps.{answer, finish_answer}
use Rattle.sp_core.specs.OnBench.{unread}
use Rattle.sp_core.proofs.Least.{least_alike}

-- whether a step leaves the tickets as they are
abbrev pub leaves_tickets : Step → Bool
leaves_tickets (s.Feed e) = true
leaves_tickets s.End = true
leaves_tickets (s.Spawn parent label) = true
leaves_tickets (s.Roll id) = true
leaves_tickets s.Finish = true
leaves_tickets (s.Lease id n) = false
leaves_tickets (s.Event n) = false
leaves_tickets (s.Return n) = false

-- the same machine, but for its tickets
abbrev pub with_tickets : Machine → List Ticket → Machine
with_tickets m ts = record m { tickets = ts }

-- whether an event is lent and not in the snapshot, and what is out, do not hang on what was read
same_bare : (ts : List Ticket) (id i : ℕ) → is_bare ts id i ≡ is_bare (map unread ts) id i
same_bare [] id i = refl
same_bare (t ∷ ts) id i = ap (λ b. (t.version == id && is_lent t i) || b) (same_bare ts id i)

same_out : (ts : List Ticket) (id : ℕ) → out_for ts id ≡ out_for (map unread ts) id
same_out [] id = refl
same_out (t ∷ ts) id = ap (λ o. cond (t.version == id) (Some t.number) o) (same_out ts id)

-- what is found under a number
pub found_unread : (ts : List Ticket) (n : ℕ) (t : Ticket) → ticket_at ts n ≡ Some t → ticket_at (map unread ts) n ≡ Some (unread t)
found_unread [] n t at = absurd (cc)
found_unread (u ∷ ts) n t at = one (u.number == n) (found_unread ts n t) at
  where
    one : (b : Bool) → (ticket_at ts n ≡ Some t → ticket_at (map unread ts) n ≡ Some (unread t)) → cond b (Some u) (ticket_at ts n) ≡ Some t
        → cond b (Some (unread u)) (ticket_at (map unread ts) n) ≡ Some (unread t)
    one true rest is = let same : u ≡ t = cc in ap (λ (x : Ticket). Some (unread x)) same
    one false rest is = rest is

pub not_found_unread : (ts : List Ticket) (n : ℕ) → ticket_at (map unread ts) n ≡ None → ticket_at ts n ≡ None
not_found_unread [] n none = refl
not_found_unread (u ∷ ts) n none = one (u.number == n) (not_found_unread ts n) none
  where
    one : (b : Bool) → (ticket_at (map unread ts) n ≡ None → ticket_at ts n ≡ None) → cond b (Some (unread u)) (ticket_at (map unread ts) n) ≡ None
        → cond b (Some u) (ticket_at ts n) ≡ None
    one true rest is = absurd (cc)
    one false rest is = rest is

module _ (q : Plan) (m : Machine) (ts : List Ticket) (apart : map unread ts ≡ m.tickets) where
  pub same_conflict : (v : Version) → conflict q (with_tickets m ts) v ≡ conflict q m v
  same_conflict v =
      least_alike _ _ (first q m.events v.window) (size q m.events v.window)
      (λ i low high. ap (λ b. is_suppressed q m v.id i && (is_read q m.events v i || b)) (same_bare ts v.id i ∙ ap (λ us. is_bare us v.id i) apart))

  pub same_out_for : (id : ℕ) → out_for ts id ≡ out_for m.tickets id
  same_out_for id = same_out ts id ∙ ap (λ us. out_for us id) apart

  same_roll : (id : ℕ) (o : Option Version) → roll_refusal q (with_tickets m ts) id o ≡ roll_refusal q m id o
  same_roll id None = refl
  same_roll id (Some v) = ap (λ o. refuse_if (not (is_some o)) (r.NoConflict id) None) (same_conflict v)

  pub same_lease : (id : ℕ) (o : Option Version) → lease_refusal q (with_tickets m ts) id o ≡ lease_refusal q m id o
  same_lease id None = refl
  same_lease id (Some v) =
      let last = refuse_if (has_nothing_to_read q m v) (r.NothingToRead v.position) None in
      ap (λ o. refuse_for o r.Out (refuse_for (conflict q (with_tickets m ts) v) r.Conflict last)) (same_out_for v.id)
      ∙ ap (λ o. refuse_for (out_for m.tickets v.id) r.Out (refuse_for o r.Conflict last)) (same_conflict v)

  pub same_refusal : (bound : ℕ) (x : Step) → leaves_tickets x ≡ true → refusal q bound (with_tickets m ts) x ≡ refusal q bound m x
  same_refusal bound (s.Feed e) leaves = refl
  same_refusal bound s.End leaves = refl
  same_refusal bound (s.Spawn None label) leaves = refl
  same_refusal bound (s.Spawn (Some p) label) leaves = refl
  same_refusal bound (s.Roll id) leaves = same_roll id (version_at m.versions id)
  same_refusal bound s.Finish leaves = refl
  same_refusal bound (s.Lease id n) leaves = absurd (cc)
  same_refusal bound (s.Event n) leaves = absurd (cc)
  same_refusal bound (s.Return n) leaves = absurd (cc)

  under : (p : ℕ) (label : List ℕ) (o : Option Version) → child_spawned (with_tickets m ts) p label o ≡ with_tickets (child_spawned m p label o) ts
  under p label None = refl
  under p label (Some u) = refl

  same_spawned : (parent : Option ℕ) (label : List ℕ) → any_spawned (with_tickets m ts) parent label ≡ with_tickets (any_spawned m parent label) ts
  same_spawned None label = refl
  same_spawned (Some p) label = under p label (version_at m.versions p)

  same_rolled : (o : Option Version) → rolled (with_tickets m ts) o ≡ with_tickets (rolled m o) ts
  same_rolled None = refl
  same_rolled (Some v) = refl

  same_settled : (o : Option Version) → settled q (with_tickets m ts) o ≡ with_tickets (settled q m o) ts
  same_settled None = refl
  same_settled (Some u) = ap (λ o. cond (is_some o) (rolled (with_tickets m ts) (Some u)) (with_tickets m ts)) (same_conflict u) ∙ one (is_some (conflict q m u))
    where
      one : (b : Bool) → cond b (rolled (with_tickets m ts) (Some u)) (with_tickets m ts) ≡ with_tickets (cond b (rolled m (Some u)) m) ts
      one true = refl
      one false = refl

module _ (q : Plan) (m : Machine) (ts : List Ticket) (apart : map unread ts ≡ m.tickets) where
  same_finished : (o : Option Version) → finished_one q (with_tickets m ts) o ≡ with_tickets (finished_one q m o) ts
  same_finished None = refl
  same_finished (Some v) = same_settled q (popped q m v) ts apart (root_in (popped q m v).versions)

  pub same_effect : (x : Step) → leaves_tickets x ≡ true → effect q (with_tickets m ts) x ≡ with_tickets (effect q m x) ts
  same_effect (s.Feed e) leaves = refl
  same_effect s.End leaves = refl
  same_effect (s.Spawn parent label) leaves = same_spawned q m ts apart parent label
  same_effect (s.Roll id) leaves = same_rolled q m ts apart (version_at m.versions id)
  same_effect s.Finish leaves = same_finished (root_in m.versions)
  same_effect (s.Lease id n) leaves = absurd (cc)
  same_effect (s.Event n) leaves = absurd (cc)
  same_effect (s.Return n) leaves = absurd (cc)

  finishes : (o : Option Version) → finish_answer q (with_tickets m ts) o ≡ finish_answer q m o
  finishes None = refl
  finishes (Some v) = ap (λ (n : Machine). steps.Finished v.window (new_matches q m v) (id_of (root_in n.versions))) (same_finished (Some v))

  pub same_answer : (x : Step) → leaves_tickets x ≡ true → answer q (with_tickets m ts) x ≡ answer q m x
  same_answer (s.Feed e) leaves = refl
  same_answer s.End leaves = refl
  same_answer (s.Spawn parent label) leaves = refl
  same_answer (s.Roll id) leaves = refl
  same_answer s.Finish leaves = finishes (root_in m.versions)
  same_answer (s.Lease id n) leaves = absurd (cc)
  same_answer (s.Event n) leaves = absurd (cc)
  same_answer (s.Return n) leaves = absurd (cc)

  -- a version is printed the same
  pub same_seen : (vs : List Version) → map (version_seen q (with_tickets m ts)) vs ≡ map (version_seen q m) vs
  same_seen [] = refl
  same_seen (v ∷ vs) =
      ap (λ o. (record (version_seen q m v) { out = o }) ∷ map (version_seen q (with_tickets m ts)) vs) (same_out_for q m ts apart v.id)
      ∙ ap (λ rest. version_seen q m v ∷ rest) (same_seen vs)

-- the tickets are those that were there
module _ (q : Plan) (m : Machine) where
  spawned_leaves : (parent : Option ℕ) (label : List ℕ) → (any_spawned m parent label).tickets ≡ m.tickets
  spawned_leaves None label = refl
  spawned_leaves (Some p) label = one (version_at m.versions p)
    where
      one : (o : Option Version) → (child_spawned m p label o).tickets ≡ m.tickets
      one None = refl
      one (Some u) = refl

  rolled_leaves : (o : Option Version) → (rolled m o).tickets ≡ m.tickets
  rolled_leaves None = refl
  rolled_leaves (Some v) = refl

  settled_leaves : (o : Option Version) → (settled q m o).tickets ≡ m.tickets
  settled_leaves None = refl
  settled_leaves (Some u) = one (is_some (conflict q m u))
    where
      one : (b : Bool) → (cond b (rolled m (Some u)) m).tickets ≡ m.tickets
      one true = refl
      one false = refl

finished_leaves : (q : Plan) (m : Machine) (o : Option Version) → (finished_one q m o).tickets ≡ m.tickets
finished_leaves q m None = refl
finished_leaves q m (Some v) = settled_leaves q (popped q m v) (root_in (popped q m v).versions)

pub left_alone : (q : Plan) (m : Machine) (x : Step) → leaves_tickets x ≡ true → (effect q m x).tickets ≡ m.tickets
left_alone q m (s.Feed e) leaves = refl
left_alone q m s.End leaves = refl
left_alone q m (s.Spawn parent label) leaves = spawned_leaves q m parent label
left_alone q m (s.Roll id) leaves = rolled_leaves q m (version_at m.versions id)
left_alone q m s.Finish leaves = finished_leaves q m (root_in m.versions)
left_alone q m (s.Lease id n) leaves = absurd (cc)
left_alone q m (s.Event n) leaves = absurd (cc)
left_alone q m (s.Return n) leaves = absurd (cc)
