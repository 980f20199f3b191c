-- Which steps give a version a new id, and which leave each version as it is.
use Rattle.std.proofs.Common.{◌≡◌, ◌≢◌, ℕ, ◌+◌, ◌≤◌, Bool, true, false, cond, not, List, [], ◌∷◌, Option, Some, None, is_some, ⊎_elim, refl, sym, ap, subst, arith}
use Rattle.sp_plan.specs.declared.plan.Plan.{Plan}
use Rattle.sp_group.specs.declared.refusal.Refusal.{Refusal}
use Rattle.sp_group.specs.declared.step.Step.{Step}
use Rattle.sp_group.specs.declared.step.Step.TheVariants as s
use Rattle.sp_group.specs.Family.{prune}
use Rattle.sp_group.specs.Machine.{Version, Ticket, Machine, kin, version_at, ticket_at, root_in, conflict, inner}
use Rattle.sp_group.specs.Refusing.{child_refusal, lease_refusal, return_refusal, roll_refusal, finish_refusal, refusal}
use Rattle.sp_group.specs.Effects.{fresh, spawned, child_spawned, leased, after_ticket, after_reading, but, home, returned, rolled, popped, settled, finished_one, effect}
use Rattle.sp_group.specs.Steps.{unless_refused, step}
use Rattle.sp_rules.specs.Kept.{Sane, Kept}
use Rattle.sp_rules.specs.Schedules.{Born, Stays}
use Rattle.sp_rules.proofs.Facts.{Facts}
use Rattle.sp_rules.proofs.Tree.{at_cases, at_id, at_later, Each, prune_is, from}
use Rattle.sp_rules.proofs.Home.{home_prunes}
use Rattle.sp_rules.proofs.Roll.{cut_back}
use Rattle.sp_rules.proofs.Finish.{pop_sane}
use Rattle.sp_rules.proofs.Steps.{passes_if, not_false}

-- every version that was there has an id given before
none_born : (q : Plan) (x : Step) (m n : Machine) → Sane q m → ((id : ℕ) (v : Version) → version_at n.versions id ≡ Some v → (u : Version) × (version_at m.versions id ≡ Some u)) → Born x m n
none_born q x m n h back id v e le =
    let there = back id v e in
    let low = h.ids id there.0 there.1 in
    absurd (omega arith)

-- a version in front of those that were there
one_born : (q : Plan) (m : Machine) (p : Option ℕ) (w : ℕ) (l : List ℕ) (vs : List Version) → Sane q m → ((id : ℕ) (v : Version) → version_at vs id ≡ Some v → (u : Version) × (version_at m.versions id ≡ Some u))
    → (id : ℕ) (v : Version) → version_at (fresh m.next_id p w l ∷ vs) id ≡ Some v → m.next_id ≤ id → (id ≡ m.next_id) × (v.position ≡ 0)
one_born q m p w l vs h back id v e le = ⊎_elim
    (λ (y : (m.next_id ≡ id) × (fresh m.next_id p w l ≡ v)). (sym y.0, ap (λ (z : Version). z.position) (sym y.1)))
    (λ (y : (m.next_id ≢ id) × (version_at vs id ≡ Some v)).
    let there = back id v y.1 in
    let low = h.ids id there.0 there.1 in
    absurd (omega arith))
    (at_cases (fresh m.next_id p w l) vs id v e)

spawned_born : (q : Plan) (x : Step) (m : Machine) (p : Option ℕ) (w : ℕ) (l : List ℕ) → Sane q m → (id : ℕ) (v : Version) → version_at (spawned m (fresh m.next_id p w l)).versions id ≡ Some v → m.next_id ≤ id → (id ≡ m.next_id) × (v.position ≡ 0)
spawned_born q x m p w l h id v e le = one_born q m p w l m.versions h (λ i u eu. (u, eu)) id v e le

rolled_born : (q : Plan) (m : Machine) (v : Version) → Sane q m → (id : ℕ) (w : Version) → version_at (rolled m (Some v)).versions id ≡ Some w → m.next_id ≤ id → (id ≡ m.next_id) × (w.position ≡ 0)
rolled_born q m v h id w e le = one_born q m v.parent v.window v.label (prune kin (but v.id) m.versions) h (λ i u eu. (u, (cut_back q m v.id h i u eu).0)) id w e le

settled_born : (q : Plan) (m : Machine) (o : Option Version) → Sane q m → (id : ℕ) (w : Version) → version_at (settled q m o).versions id ≡ Some w → m.next_id ≤ id → (id ≡ m.next_id) × (w.position ≡ 0)
settled_born q m None h id w e le = let low = h.ids id w e in absurd (omega arith)
settled_born q m (Some c) h id w e le = one (is_some (conflict q m c)) e
  where
    one : (b : Bool) → version_at (cond b (rolled m (Some c)) m).versions id ≡ Some w → (id ≡ m.next_id) × (w.position ≡ 0)
    one true e = rolled_born q m c h id w e le
    one false e = let low = h.ids id w e in absurd (omega arith)

home_born : (q : Plan) → Facts q → (x : Step) (m : Machine) (n : ℕ) (t : Ticket) (v : Version) → ticket_at m.tickets n ≡ Some t → version_at m.versions t.version ≡ Some v → Kept q m → Born x m (home q m n t (Some v))
home_born q k x m n t v e e' h = none_born q x m (home q m n t (Some v)) h.sane (λ id w at.
    let pr = home_prunes q k m n t v e e' h in
    let isall : Each (λ u. version_at m.versions u.id ≡ Some u) m.versions = λ i u eu. subst (λ (z : ℕ). version_at m.versions z ≡ Some u) (sym (at_id m.versions i u eu)) eu in
    let rule = after_reading q v.id (after_ticket v t) (inner q m.events v) (inner q m.events (after_ticket v t)) in
    let b = from q (inner q m.events) rule (λ u. version_at m.versions u.id ≡ Some u) m.finished pr m.versions (prune kin rule m.versions) (prune_is rule m.versions) h.sane.shape isall id w at in
    (b.0, b.1))

unless_born : (x : Step) (o : Option Refusal) (m new : Machine) → Born x m m → (o ≡ None → Born x m new) → Born x m (unless_refused o m new)
unless_born x None m new h k = k refl
unless_born x (Some c) m new h k = h

pub step_born : (q : Plan) → Facts q → (bound : ℕ) (m : Machine) (x : Step) → Kept q m → Born x m (step q bound m x)
step_born q k bound m (s.Feed e) h = unless_born (s.Feed e) (refusal q bound m (s.Feed e)) m (effect q m (s.Feed e)) (none_born q (s.Feed e) m m h.sane (λ i u eu. (u, eu))) (λ r. none_born q (s.Feed e) m (effect q m (s.Feed e)) h.sane (λ i u eu. (u, eu)))
step_born q k bound m s.End h = unless_born s.End (refusal q bound m s.End) m (effect q m s.End) (none_born q s.End m m h.sane (λ i u eu. (u, eu))) (λ r. none_born q s.End m (effect q m s.End) h.sane (λ i u eu. (u, eu)))
step_born q k bound m (s.Spawn None l) h = unless_born (s.Spawn None l) (refusal q bound m (s.Spawn None l)) m (effect q m (s.Spawn None l)) (none_born q (s.Spawn None l) m m h.sane (λ i u eu. (u, eu)))
    (λ r id v e le. let y = spawned_born q (s.Spawn None l) m None (m.finished + 1) [] h.sane id v e le in (refl, y.0, y.1))
step_born q k bound m (s.Spawn (Some p) l) h = one (version_at m.versions p)
  where
    same : Born (s.Spawn (Some p) l) m m
    same = none_born q (s.Spawn (Some p) l) m m h.sane (λ i u eu. (u, eu))

    one : (o : Option Version) → Born (s.Spawn (Some p) l) m (unless_refused (child_refusal q bound m p l o) m (child_spawned m p l o))
    one None = same
    one (Some u) = unless_born (s.Spawn (Some p) l) (child_refusal q bound m p l (Some u)) m (child_spawned m p l (Some u)) same
        (λ r id v e le. let y = spawned_born q (s.Spawn (Some p) l) m (Some p) (u.window + 1) l h.sane id v e le in (refl, y.0, y.1))
step_born q k bound m (s.Lease id n) h = one (version_at m.versions id)
  where
    same : Born (s.Lease id n) m m
    same = none_born q (s.Lease id n) m m h.sane (λ i u eu. (u, eu))

    one : (o : Option Version) → Born (s.Lease id n) m (unless_refused (lease_refusal q m id o) m (leased q m n o))
    one None = same
    one (Some u) = unless_born (s.Lease id n) (lease_refusal q m id (Some u)) m (leased q m n (Some u)) same (λ r. none_born q (s.Lease id n) m (leased q m n (Some u)) h.sane (λ i u eu. (u, eu)))
step_born q k bound m (s.Event n) h = unless_born (s.Event n) (refusal q bound m (s.Event n)) m (effect q m (s.Event n)) (none_born q (s.Event n) m m h.sane (λ i u eu. (u, eu))) (λ r. none_born q (s.Event n) m (effect q m (s.Event n)) h.sane (λ i u eu. (u, eu)))
step_born q k bound m (s.Return n) h = one (ticket_at m.tickets n) refl
  where
    two : (t : Ticket) → ticket_at m.tickets n ≡ Some t → (o : Option Version) → version_at m.versions t.version ≡ o → Born (s.Return n) m (home q m n t o)
    two t e None e' = none_born q (s.Return n) m (home q m n t None) h.sane (λ i u eu. (u, eu))
    two t e (Some v) e' = home_born q k (s.Return n) m n t v e e' h

    one : (o : Option Ticket) → ticket_at m.tickets n ≡ o → Born (s.Return n) m (unless_refused (return_refusal n o) m (returned q m n o))
    one None e = none_born q (s.Return n) m m h.sane (λ i u eu. (u, eu))
    one (Some t) e = two t e (version_at m.versions t.version) refl
step_born q k bound m (s.Roll id) h = one (version_at m.versions id)
  where
    same : Born (s.Roll id) m m
    same = none_born q (s.Roll id) m m h.sane (λ i u eu. (u, eu))

    one : (o : Option Version) → Born (s.Roll id) m (unless_refused (roll_refusal q m id o) m (rolled m o))
    one None = same
    one (Some v) = unless_born (s.Roll id) (roll_refusal q m id (Some v)) m (rolled m (Some v)) same
        (λ r i w e le. let y = rolled_born q m v h.sane i w e le in (refl, y.0, y.1))
step_born q k bound m s.Finish h = one (root_in m.versions) refl
  where
    same : Born s.Finish m m
    same = none_born q s.Finish m m h.sane (λ i u eu. (u, eu))

    one : (o : Option Version) → root_in m.versions ≡ o → Born s.Finish m (unless_refused (finish_refusal m o) m (finished_one q m o))
    one None e = same
    one (Some v) e = unless_born s.Finish (finish_refusal m (Some v)) m (finished_one q m (Some v)) same (λ r i w ew le.
        let done = not_false v.done (passes_if (not v.done) _ _ r).0 in
        let y = settled_born q (popped q m v) (root_in (popped q m v).versions) (pop_sane q k m v e done h) i w ew le in
        (refl, y.0, y.1))

unless_stays : (o : Option Refusal) (m new : Machine) (id : ℕ) (v : Version) → version_at m.versions id ≡ Some v → (o ≡ None → version_at new.versions id ≡ Some v) → version_at (unless_refused o m new).versions id ≡ Some v
unless_stays None m new id v h k = k refl
unless_stays (Some c) m new id v h k = h

pub step_stays : (q : Plan) (bound : ℕ) (m : Machine) (x : Step) → Kept q m → Stays x m (step q bound m x)
step_stays q bound m (s.Feed e) h same id v is = unless_stays (refusal q bound m (s.Feed e)) m (effect q m (s.Feed e)) id v is (λ r. is)
step_stays q bound m s.End h same id v is = unless_stays (refusal q bound m s.End) m (effect q m s.End) id v is (λ r. is)
step_stays q bound m (s.Spawn None l) h same id v is = unless_stays (refusal q bound m (s.Spawn None l)) m (effect q m (s.Spawn None l)) id v is
    (λ r. at_later (fresh m.next_id None (m.finished + 1) []) m.versions id v (h.sane.ids id v is) is)
step_stays q bound m (s.Spawn (Some p) l) h same id v is = one (version_at m.versions p)
  where
    one : (o : Option Version) → version_at (unless_refused (child_refusal q bound m p l o) m (child_spawned m p l o)).versions id ≡ Some v
    one None = is
    one (Some u) = unless_stays (child_refusal q bound m p l (Some u)) m (child_spawned m p l (Some u)) id v is
        (λ r. at_later (fresh m.next_id (Some p) (u.window + 1) l) m.versions id v (h.sane.ids id v is) is)
step_stays q bound m (s.Lease a n) h same id v is = one (version_at m.versions a)
  where
    one : (o : Option Version) → version_at (unless_refused (lease_refusal q m a o) m (leased q m n o)).versions id ≡ Some v
    one None = is
    one (Some u) = unless_stays (lease_refusal q m a (Some u)) m (leased q m n (Some u)) id v is (λ r. is)
step_stays q bound m (s.Event n) h same id v is = unless_stays (refusal q bound m (s.Event n)) m (effect q m (s.Event n)) id v is (λ r. is)
step_stays q bound m (s.Return n) h same id v is = absurd (cc)
step_stays q bound m (s.Roll a) h same id v is = absurd (cc)
step_stays q bound m s.Finish h same id v is = absurd (cc)
