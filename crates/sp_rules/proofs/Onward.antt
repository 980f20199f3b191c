-- No step takes back of a version what it has read or skipped, that it is done, or what is suppressed for it.
use Rattle.std.proofs.Common.{◌≡◌, ◌≢◌, ℕ, ◌+◌, ◌<◌, ◌≤◌, Bool, true, false, cond, not, nat_lt, List, [], ◌∷◌, ◌++◌, filter, Option, Some, None, is_some, ⊎_elim, refl, sym, ap, ◌∙◌, subst, arith}
use Rattle.sp_base.proofs.RisingLists.{mem_left, mem_cases}
use Rattle.sp_base.specs.Numbers.{is_among}
use Rattle.sp_plan.specs.declared.event.Event.{Event}
use Rattle.sp_plan.specs.declared.plan.Plan.{Plan}
use Rattle.sp_plan.specs.WindowNumbers.{Good, first}
use Rattle.sp_group.specs.declared.refusal.Refusal.{Refusal}
use Rattle.sp_group.specs.declared.step.Step.{Step}
use Rattle.sp_group.specs.declared.step.Step.TheVariants as s
use Rattle.sp_group.specs.Family.{prune}
use Rattle.sp_group.specs.Machine.{Version, Ticket, Machine, kin, version_at, ticket_at, root_in, is_suppressed, conflict, inner}
use Rattle.sp_group.specs.Refusing.{child_refusal, lease_refusal, return_refusal, roll_refusal, finish_refusal, refusal}
use Rattle.sp_group.specs.Effects.{fresh, spawned, child_spawned, lent, leased, read_on, without, after_ticket, after_reading, but, home, returned, rolled, promoted, popped, settled, finished_one, effect}
use Rattle.sp_group.specs.Steps.{unless_refused, step}
use Rattle.sp_rules.specs.Kept.{Lent, Sane, Kept}
use Rattle.sp_rules.specs.Schedules.{FitsStep, TakesNothingBack, Onward}
use Rattle.sp_rules.proofs.Facts.{Facts}
use Rattle.sp_rules.proofs.Lists.{or_left, absent, mem_filter}
use Rattle.sp_rules.proofs.Tree.{at_cases, at_id, supp_later, Each, Prunes, prune_is, from, prune_grows}
use Rattle.sp_rules.proofs.Labels.{Outcome, itself, child, other, outcome}
use Rattle.sp_rules.proofs.Locals.{supp_same}
use Rattle.sp_rules.proofs.Feeding.{fed, same_inner}
use Rattle.sp_rules.proofs.Home.{read_cases, read_is, home_prunes}
use Rattle.sp_rules.proofs.Roll.{cut_back, cut_grows}
use Rattle.sp_rules.proofs.Finish.{Promoted, up, idle_one, back, pop_grows, pop_sane, done_idle}
use Rattle.sp_rules.proofs.Steps.{passes_if, not_false}

module _ (q : Plan) (m n : Machine) (id : ℕ) (v w : Version) (window : first q n.events w.window ≡ first q m.events v.window)
    (grows : (i : ℕ) → is_suppressed q m id i ≡ true → is_suppressed q n id i ≡ true) where
  -- a version that has read no less, and skips what it skipped and nothing that it had read
  went_on : v.position ≤ w.position → ((i : ℕ) → i < first q m.events v.window + v.position → is_among w.skipped i ≡ true → is_among v.skipped i ≡ true)
      → ((i : ℕ) → is_among v.skipped i ≡ true → is_among w.skipped i ≡ true) → (v.done ≡ true → w.done ≡ true) → TakesNothingBack q m n id v w
  went_on further skips keeps done = record {
    position = further;
    read = λ i x.
        let had = read_cases q m.events v i x in
        read_is q n.events w i (
          omega (arith, window, had.0),
          omega (arith, window, had.1, further),
          absent (is_among w.skipped i) (skips i had.1) had.2,
        );
    skipped = keeps;
    done = done;
    suppressed = grows;
  }

  -- a version that has read as before
  as_before : w.position ≡ v.position → w.skipped ≡ v.skipped → w.done ≡ v.done → TakesNothingBack q m n id v w
  as_before position skipped done = went_on (omega (arith, position)) (λ i low x. ap (λ ns. is_among ns i) (sym skipped) ∙ x)
      (λ i x. ap (λ ns. is_among ns i) skipped ∙ x) (λ x. done ∙ x)

-- the very version, in a state where its window begins as before
itself_on : (q : Plan) (m n : Machine) (id : ℕ) (v : Version) → first q n.events v.window ≡ first q m.events v.window
    → ((i : ℕ) → is_suppressed q m id i ≡ true → is_suppressed q n id i ≡ true) → TakesNothingBack q m n id v v
itself_on q m n id v window grows = as_before q m n id v v window grows refl refl refl

-- what is not taken back on two ways is not on both together
both_ways : (q : Plan) (a b c : Machine) (id : ℕ) (u v w : Version) → TakesNothingBack q a b id u v → TakesNothingBack q b c id v w → TakesNothingBack q a c id u w
both_ways q a b c id u v w early late =
    let one = early.position in
    let other = late.position in
    record {
      position = omega (arith, one, other);
      read = λ i x. late.read i (early.read i x);
      skipped = λ i x. late.skipped i (early.skipped i x);
      done = λ x. late.done (early.done x);
      suppressed = λ i x. late.suppressed i (early.suppressed i x);
    }

stands_still : (q : Plan) (s : Machine) (ts : List Ticket) (n : ℕ) → Onward q s (record s { tickets = ts; next_ticket = n })
stands_still q s ts n id v e l = (v, e, itself_on q s (record s { tickets = ts; next_ticket = n }) id v refl (λ i x. x))

onward_same : (q : Plan) (s : Machine) → Onward q s s
onward_same q s id v e l = (v, e, itself_on q s s id v refl (λ i x. x))

feed_onward : (q : Plan) → Facts q → (s : Machine) (e : Event) → Good q (s.events ++ e ∷ []) → Kept q s → Onward q s (fed s e)
feed_onward q k s e g h id v at l =
    let there = (h.sane.each id v at).there in (
      v,
      at,
      itself_on q s (fed s e) id v (k.first_fed s.events e v.window g there.0 there.1)
          (λ i x. supp_same q (inner q s.events) (inner q (s.events ++ e ∷ [])) s.consumed s.finished s.versions h.sane.shape (same_inner q k s e g h) id i ∙ x),
    )

spawned_onward : (q : Plan) (s : Machine) (p : Option ℕ) (w : ℕ) (l : List ℕ) → Onward q s (spawned s (fresh s.next_id p w l))
spawned_onward q s p w l id v at lt = ⊎_elim
    (λ (y : (s.next_id ≡ id) × (fresh s.next_id p w l ≡ v)). let z = y.0 in absurd (omega arith))
    (λ (y : (s.next_id ≢ id) × (version_at s.versions id ≡ Some v)).
    (v, y.1, itself_on q s (spawned s (fresh s.next_id p w l)) id v refl (λ i x. supp_later q (inner q s.events) s.consumed (fresh s.next_id p w l) s.versions id i y.0 ∙ x)))
    (at_cases (fresh s.next_id p w l) s.versions id v at)

onward_on : (q : Plan) (a b c : Machine) → a.next_id ≤ b.next_id → Onward q a b → Onward q b c → Onward q a c
onward_on q a b c le f g id w at l =
    let late = g id w at (omega arith) in
    let early = f id late.0 late.1 l in
    (early.0, early.1, both_ways q a b c id early.0 late.0 w early.2 late.2)

rolled_onward : (q : Plan) (s : Machine) (v : Version) → Sane q s → Onward q s (rolled s (Some v))
rolled_onward q s v h =
    let cut : Machine = record s { versions = prune kin (but v.id) s.versions } in
    onward_on q s cut (rolled s (Some v)) (omega arith)
    (λ id w at l. let b = cut_back q s v.id h id w at in (w, b.0, itself_on q s cut id w refl (λ i x. cut_grows q s v.id h id w at i x)))
    (spawned_onward q cut v.parent v.window v.label)

settled_onward : (q : Plan) (s : Machine) (o : Option Version) → Sane q s → Onward q s (settled q s o)
settled_onward q s None h = onward_same q s
settled_onward q s (Some c) h = one (is_some (conflict q s c))
  where
    one : (b : Bool) → Onward q s (cond b (rolled s (Some c)) s)
    one true = rolled_onward q s c h
    one false = onward_same q s

popped_onward : (q : Plan) → Facts q → (s : Machine) (r : Version) → root_in s.versions ≡ Some r → r.done ≡ true → Kept q s → Onward q s (popped q s r)
popped_onward q k s r rt d h id w at l =
    let b = back q (inner q s.events) r.id s.finished s.versions (prune kin (promoted r.id) s.versions) (prune_is (promoted r.id) s.versions) h.sane.shape id w at in
    (b.0, b.1, still b.0 b.2)
  where
    grows : (i : ℕ) → is_suppressed q s id i ≡ true → is_suppressed q (popped q s r) id i ≡ true
    grows i x = pop_grows q s.events s.finished r (done_idle q s.events r d) s.consumed s.versions (prune kin (promoted r.id) s.versions) (prune_is (promoted r.id) s.versions) h.sane.shape rt id w at i x

    still : (v : Version) → Promoted r.id v w → TakesNothingBack q s (popped q s r) id v w
    still v (up n p e) = as_before q s (popped q s r) id v w (ap (λ (z : Version). first q s.events z.window) e) grows (ap (λ (z : Version). z.position) e) (ap (λ (z : Version). z.skipped) e) (ap (λ (z : Version). z.done) e)
    still v (idle_one n p e) = as_before q s (popped q s r) id v w (ap (λ (z : Version). first q s.events z.window) e) grows (ap (λ (z : Version). z.position) e) (ap (λ (z : Version). z.skipped) e) (ap (λ (z : Version). z.done) e)

-- what a version passes over with a ticket
abbrev passed : Ticket → List ℕ
passed t = filter (λ i. nat_lt i (t.first + t.read)) t.snapshot

-- a version whose own ticket comes home
own_onward : (q : Plan) (s m : Machine) (id : ℕ) (v : Version) (t : Ticket) → m.events ≡ s.events → Lent q s.events s.ended (is_suppressed q s t.version) v t
    → ((i : ℕ) → is_suppressed q s id i ≡ true → is_suppressed q m id i ≡ true) → TakesNothingBack q s m id v (after_ticket v t)
own_onward q s m id v t events mine grows =
    went_on q s m id v (after_ticket v t) (ap (λ (es : List Event). first q es v.window) events) grows (omega arith)
    (λ i low x. ⊎_elim
    (λ (y : is_among v.skipped i ≡ true). y)
    (λ (y : is_among (passed t) i ≡ true).
    let named = mem_filter i (λ i. nat_lt i (t.first + t.read)) t.snapshot y in
    let behind = (mine.snapshot i named.0).1 in
    let begins = mine.begins in
    absurd (omega (arith, behind, low, begins)))
    (mem_cases i v.skipped (passed t) x))
    (λ i x. mem_left i v.skipped (passed t) x)
    (λ x. or_left v.done t.closing_read x)

home_onward : (q : Plan) → Facts q → (s : Machine) (n : ℕ) (t : Ticket) (v : Version) → ticket_at s.tickets n ≡ Some t → version_at s.versions t.version ≡ Some v → Kept q s → Onward q s (home q s n t (Some v))
home_onward q k s n t v e e' h id w at l =
    let b = from q (inner q s.events) kk (λ u. version_at s.versions u.id ≡ Some u) s.finished pr s.versions (prune kin kk s.versions) (prune_is kk s.versions) h.sane.shape isall id w at in (
      b.0,
      b.1,
      still b.0 (isall id b.0 b.1) (outcome q v.id (after_ticket v t) (inner q s.events v) (inner q s.events (after_ticket v t)) b.0 w b.2),
    )
  where
    pr : Prunes q (inner q s.events) (after_reading q v.id (after_ticket v t) (inner q s.events v) (inner q s.events (after_ticket v t))) (λ u. version_at s.versions u.id ≡ Some u)
    pr = home_prunes q k s n t v e e' h

    isall : Each (λ u. version_at s.versions u.id ≡ Some u) s.versions
    isall i u eu = subst (λ (z : ℕ). version_at s.versions z ≡ Some u) (sym (at_id s.versions i u eu)) eu

    kk : Version → Option Version
    kk = after_reading q v.id (after_ticket v t) (inner q s.events v) (inner q s.events (after_ticket v t))

    grows : (i : ℕ) → is_suppressed q s id i ≡ true → is_suppressed q (home q s n t (Some v)) id i ≡ true
    grows i x = prune_grows q (inner q s.events) s.consumed kk (λ u. version_at s.versions u.id ≡ Some u) s.finished pr s.versions (prune kin kk s.versions) (prune_is kk s.versions) h.sane.shape isall id w at i x

    mine : Lent q s.events s.ended (is_suppressed q s t.version) v t
    mine = (h.sane.each t.version v e').lent n t e (sym (at_id s.versions t.version v e'))

    own : TakesNothingBack q s (home q s n t (Some v)) id v (after_ticket v t)
    own = own_onward q s (home q s n t (Some v)) id v t refl mine grows

    still : (u : Version) → version_at s.versions u.id ≡ Some u → Outcome q v.id (after_ticket v t) (inner q s.events v) (inner q s.events (after_ticket v t)) u w → TakesNothingBack q s (home q s n t (Some v)) id u w
    still u ue (itself i x) =
        let a : version_at s.versions v.id ≡ Some u = subst (λ (z : ℕ). version_at s.versions z ≡ Some u) i ue in
        let c : version_at s.versions v.id ≡ Some v = subst (λ (z : ℕ). version_at s.versions z ≡ Some v) (sym (at_id s.versions t.version v e')) e' in
        let same_one : u ≡ v = cc in
        subst (λ (z : Version). TakesNothingBack q s (home q s n t (Some v)) id z w) (sym same_one)
        (subst (λ (z : Version). TakesNothingBack q s (home q s n t (Some v)) id v z) (sym x) own)
    still u ue (child i p st x) = as_before q s (home q s n t (Some v)) id u w (ap (λ (z : Version). first q s.events z.window) x) grows (ap (λ (z : Version). z.position) x) (ap (λ (z : Version). z.skipped) x) (ap (λ (z : Version). z.done) x)
    still u ue (other i p x) = as_before q s (home q s n t (Some v)) id u w (ap (λ (z : Version). first q s.events z.window) x) grows (ap (λ (z : Version). z.position) x) (ap (λ (z : Version). z.skipped) x) (ap (λ (z : Version). z.done) x)

unless_onward : (q : Plan) (o : Option Refusal) (m new : Machine) → (o ≡ None → Onward q m new) → Onward q m (unless_refused o m new)
unless_onward q None m new k = k refl
unless_onward q (Some c) m new k = onward_same q m

pub step_onward : (q : Plan) → Facts q → (bound : ℕ) (m : Machine) (x : Step) → FitsStep q bound m x → Kept q m → Onward q m (step q bound m x)
step_onward q k bound m (s.Feed e) fit h = unless_onward q (refusal q bound m (s.Feed e)) m (effect q m (s.Feed e)) (λ r. feed_onward q k m e (fit r) h)
step_onward q k bound m s.End fit h = unless_onward q (refusal q bound m s.End) m (effect q m s.End) (λ r id v at l. (v, at, itself_on q m (effect q m s.End) id v refl (λ i x. x)))
step_onward q k bound m (s.Spawn None l) fit h = unless_onward q (refusal q bound m (s.Spawn None l)) m (effect q m (s.Spawn None l)) (λ r. spawned_onward q m None (m.finished + 1) [])
step_onward q k bound m (s.Spawn (Some p) l) fit h = one (version_at m.versions p)
  where
    one : (o : Option Version) → Onward q m (unless_refused (child_refusal q bound m p l o) m (child_spawned m p l o))
    one None = onward_same q m
    one (Some u) = unless_onward q (child_refusal q bound m p l (Some u)) m (child_spawned m p l (Some u)) (λ r. spawned_onward q m (Some p) (u.window + 1) l)
step_onward q k bound m (s.Lease id n) fit h = one (version_at m.versions id)
  where
    one : (o : Option Version) → Onward q m (unless_refused (lease_refusal q m id o) m (leased q m n o))
    one None = onward_same q m
    one (Some u) = unless_onward q (lease_refusal q m id (Some u)) m (leased q m n (Some u)) (λ r. stands_still q m (lent q m n u ∷ m.tickets) (m.next_ticket + 1))
step_onward q k bound m (s.Event n) fit h = unless_onward q (refusal q bound m (s.Event n)) m (effect q m (s.Event n)) (λ r. stands_still q m (read_on n m.tickets) m.next_ticket)
step_onward q k bound m (s.Return n) fit h = one (ticket_at m.tickets n) refl
  where
    two : (t : Ticket) → ticket_at m.tickets n ≡ Some t → (o : Option Version) → version_at m.versions t.version ≡ o → Onward q m (home q m n t o)
    two t e None e' = stands_still q m (without n m.tickets) m.next_ticket
    two t e (Some v) e' = home_onward q k m n t v e e' h

    one : (o : Option Ticket) → ticket_at m.tickets n ≡ o → Onward q m (unless_refused (return_refusal n o) m (returned q m n o))
    one None e = onward_same q m
    one (Some t) e = two t e (version_at m.versions t.version) refl
step_onward q k bound m (s.Roll id) fit h = one (version_at m.versions id)
  where
    one : (o : Option Version) → Onward q m (unless_refused (roll_refusal q m id o) m (rolled m o))
    one None = onward_same q m
    one (Some v) = unless_onward q (roll_refusal q m id (Some v)) m (rolled m (Some v)) (λ r. rolled_onward q m v h.sane)
step_onward q k bound m s.Finish fit h = one (root_in m.versions) refl
  where
    one : (o : Option Version) → root_in m.versions ≡ o → Onward q m (unless_refused (finish_refusal m o) m (finished_one q m o))
    one None e = onward_same q m
    one (Some r) e = unless_onward q (finish_refusal m (Some r)) m (finished_one q m (Some r)) (λ y.
        let d = not_false r.done (passes_if (not r.done) _ _ y).0 in
        onward_on q m (popped q m r) (settled q (popped q m r) (root_in (popped q m r).versions)) (omega arith) (popped_onward q k m r e d h)
        (settled_onward q (popped q m r) (root_in (popped q m r).versions) (pop_sane q k m r e d h)))
