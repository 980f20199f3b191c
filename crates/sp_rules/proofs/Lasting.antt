-- What a ticket lends stays what it is, whatever step is taken while it is out.
use Rattle.std.proofs.Common.{◌≡◌, ◌≢◌, ℕ, ◌+◌, ◌-◌, ◌<◌, ◌≤◌, Bool, true, false, cond, not, List, [], ◌∷◌, ◌++◌, take, drop, Option, Some, None, is_some, ⊎_elim, refl, sym, ap, ◌∙◌, subst, arith}
use Rattle.std.proofs.lemmas.List.{take-append-le, drop-append-le, length-drop}
use Rattle.sp_plan.specs.declared.event.Event.{Event}
use Rattle.sp_plan.specs.declared.plan.Plan.{Plan}
use Rattle.sp_plan.specs.Runs.{State}
use Rattle.sp_plan.specs.WindowNumbers.{Good}
use Rattle.sp_window.specs.Laws.{IsNumber}
use Rattle.sp_group.specs.declared.refusal.Refusal.{Refusal}
use Rattle.sp_group.specs.declared.step.Step.{Step}
use Rattle.sp_group.specs.declared.step.Step.TheVariants as s
use Rattle.sp_group.specs.Family.{prune}
use Rattle.sp_group.specs.Machine.{Version, Ticket, Machine, kin, version_at, ticket_at, root_in, conflict, inner}
use Rattle.sp_group.specs.Refusing.{child_refusal, lease_refusal, return_refusal, roll_refusal, finish_refusal, refusal}
use Rattle.sp_group.specs.Effects.{fresh, spawned, child_spawned, leased, without, after_ticket, after_reading, but, home, returned, rolled, promoted, popped, settled, finished_one, effect}
use Rattle.sp_group.specs.Steps.{unless_refused, step}
use Rattle.sp_rules.specs.Kept.{Sane, Kept}
use Rattle.sp_rules.specs.Lawful.{Lawful}
use Rattle.sp_rules.specs.Schedules.{FitsStep}
use Rattle.sp_rules.specs.StayingLent.{StaysLent}
use Rattle.sp_rules.proofs.Facts.{Facts, facts}
use Rattle.sp_rules.proofs.Lists.{below_or}
use Rattle.sp_rules.proofs.Tickets.{out_at, without_at}
use Rattle.sp_rules.proofs.Tree.{at_cases, at_id, Each, prune_is, from}
use Rattle.sp_rules.proofs.Labels.{Outcome, itself, child, other, outcome}
use Rattle.sp_rules.proofs.Feeding.{fed, same_inner}
use Rattle.sp_rules.proofs.Home.{home_prunes}
use Rattle.sp_rules.proofs.Roll.{cut_back}
use Rattle.sp_rules.proofs.Finish.{rises_inner, back, pop_sane}
use Rattle.sp_rules.proofs.Steps.{passes_if, not_false}

-- what a ticket lends stays, where its version is live after the change
abbrev Lasts : Plan → Machine → Machine → Ticket → Type 0
Lasts q m n t = (after : Version) → version_at n.versions t.version ≡ Some after → StaysLent q m n t after

lasts_still : (q : Plan) (m : Machine) (t : Ticket) → Lasts q m m t
lasts_still q m t v at = record { before = v; live = at; runs = refl; events = refl }

lasts_on : (q : Plan) (a b c : Machine) (t : Ticket) → Lasts q a b t → Lasts q b c t → Lasts q a c t
lasts_on q a b c t early late after at =
    let y = late after at in
    let x = early y.before y.live in
    record { before = x.before; live = x.live; runs = y.runs ∙ x.runs; events = y.events ∙ x.events }

unless_lasts : (q : Plan) (o : Option Refusal) (m new : Machine) (t : Ticket) → (o ≡ None → Lasts q m new t) → Lasts q m (unless_refused o m new) t
unless_lasts q None m new t k = k refl
unless_lasts q (Some c) m new t k = lasts_still q m t

-- a ticket that is out names no id that is still to be given
names_given : (q : Plan) (m : Machine) (number : ℕ) (t : Ticket) → Sane q m → ticket_at m.tickets number ≡ Some t → t.version < m.next_id
names_given q m number t h out = ⊎_elim
    (λ (y : t.version < m.next_id). y)
    (λ (y : m.next_id ≤ t.version). let a = out_at m.tickets number t out in let b = h.unborn t.version y in absurd (cc))
    (below_or t.version m.next_id)

-- A version with a new id is none that a ticket names.
spawned_lasts : (q : Plan) (m : Machine) (p : Option ℕ) (w : ℕ) (l : List ℕ) (t : Ticket) → t.version < m.next_id → Lasts q m (spawned m (fresh m.next_id p w l)) t
spawned_lasts q m p w l t given after at = ⊎_elim
    (λ (y : (m.next_id ≡ t.version) × (fresh m.next_id p w l ≡ after)). let same = y.0 in absurd (omega arith))
    (λ (y : (m.next_id ≢ t.version) × (version_at m.versions t.version ≡ Some after)). record { before = after; live = y.1; runs = refl; events = refl })
    (at_cases (fresh m.next_id p w l) m.versions t.version after at)

rolled_lasts : (q : Plan) (m : Machine) (v : Version) (t : Ticket) → Sane q m → t.version < m.next_id → Lasts q m (rolled m (Some v)) t
rolled_lasts q m v t h given =
    let cut : Machine = record m { versions = prune kin (but v.id) m.versions } in
    lasts_on q m cut (rolled m (Some v)) t
    (λ w at. record { before = w; live = (cut_back q m v.id h t.version w at).0; runs = refl; events = refl })
    (spawned_lasts q cut v.parent v.window v.label t given)

settled_lasts : (q : Plan) (m : Machine) (o : Option Version) (t : Ticket) → Sane q m → t.version < m.next_id → Lasts q m (settled q m o) t
settled_lasts q m None t h given = lasts_still q m t
settled_lasts q m (Some c) t h given = one (is_some (conflict q m c))
  where
    one : (b : Bool) → Lasts q m (cond b (rolled m (Some c)) m) t
    one true = rolled_lasts q m c t h given
    one false = lasts_still q m t

-- Where the root goes, a version loses at most its parent.
popped_lasts : (q : Plan) (m : Machine) (r : Version) (t : Ticket) → Sane q m → Lasts q m (popped q m r) t
popped_lasts q m r t h after at =
    let b = back q (inner q m.events) r.id m.finished m.versions (prune kin (promoted r.id) m.versions) (prune_is (promoted r.id) m.versions) h.shape t.version after at in
    record { before = b.0; live = b.1; runs = rises_inner q m.events r.id b.0 after b.2; events = refl }

-- The return of another ticket changes the version that this one names in its label alone, since at most one ticket is out for a version.
home_lasts : (q : Plan) → Facts q → (m : Machine) (n : ℕ) (r : Ticket) (v : Version) (number : ℕ) (t : Ticket) → ticket_at m.tickets n ≡ Some r → version_at m.versions r.version ≡ Some v
    → Kept q m → ticket_at m.tickets number ≡ Some t → number ≢ n → Lasts q m (home q m n r (Some v)) t
home_lasts q k m n r v number t returns of h out apart after at =
    let b = from q f rule (λ u. version_at m.versions u.id ≡ Some u) m.finished (home_prunes q k m n r v returns of h) m.versions (prune kin rule m.versions) (prune_is rule m.versions) h.sane.shape isall t.version after at in
    record {
      before = b.0;
      live = b.1;
      runs = same b.0 b.1 (outcome q v.id (after_ticket v r) (f v) (f (after_ticket v r)) b.0 after b.2);
      events = refl;
    }
  where
    f : Version → State
    f = inner q m.events

    rule : Version → Option Version
    rule = after_reading q v.id (after_ticket v r) (inner q m.events v) (inner q m.events (after_ticket v r))

    isall : Each (λ u. version_at m.versions u.id ≡ Some u) m.versions
    isall i u is = subst (λ (z : ℕ). version_at m.versions z ≡ Some u) (sym (at_id m.versions i u is)) is

    own : v.id ≡ r.version
    own = at_id m.versions r.version v of

    another : t.version ≡ v.id → ⊥
    another is = apart ((h.sane.each r.version v of).only number n t r out returns is (sym own))

    same : (u : Version) → version_at m.versions t.version ≡ Some u → Outcome q v.id (after_ticket v r) (f v) (f (after_ticket v r)) u after → inner q m.events after ≡ inner q m.events u
    same u is (itself i x) = absurd (another (sym (at_id m.versions t.version u is) ∙ i))
    same u is (child i p foreseen x) = ap (inner q m.events) x
    same u is (other i p x) = ap (inner q m.events) x

module _ (q : Plan) (law : Lawful q) where
  -- The events that are lent stand within those that were fed.
  fed_lasts : (m : Machine) (e : Event) (number : ℕ) (t : Ticket) → Good q (m.events ++ e ∷ []) → Kept q m → ticket_at m.tickets number ≡ Some t → Lasts q m (fed m e) t
  fed_lasts m e number t good h out v at =
      let l = h.sane.each t.version v at in
      let lent = l.lent number t out (sym (at_id m.versions t.version v at)) in
      let window : IsNumber q m.events v.window = record { good = h.sane.good; low = l.there.0; high = l.there.1 } in
      let low = law.windows.hold_events.low m.events v.window window in
      let high = law.windows.hold_events.within m.events v.window window in
      let begins = lent.begins in
      let fits = lent.fits in
      record {
        before = v;
        live = at;
        runs = same_inner q (facts q law) m e good h t.version v at;
        events = ap (take t.count) (drop-append-le (t.first - 1) m.events (e ∷ []) (omega arith))
            ∙ take-append-le t.count (drop (t.first - 1) m.events) (e ∷ []) (omega (arith, length-drop (t.first - 1) m.events));
      }

  pub step_lasts : (bound : ℕ) (m : Machine) (x : Step) (number : ℕ) (t u : Ticket) → Kept q m → FitsStep q bound m x → ticket_at m.tickets number ≡ Some t
      → ticket_at (step q bound m x).tickets number ≡ Some u → Lasts q m (step q bound m x) t
  step_lasts bound m (s.Feed e) number t u h fit out still = unless_lasts q (refusal q bound m (s.Feed e)) m (effect q m (s.Feed e)) t (λ r. fed_lasts m e number t (fit r) h out)
  step_lasts bound m s.End number t u h fit out still = unless_lasts q (refusal q bound m s.End) m (effect q m s.End) t (λ r v at. record { before = v; live = at; runs = refl; events = refl })
  step_lasts bound m (s.Spawn None l) number t u h fit out still = unless_lasts q (refusal q bound m (s.Spawn None l)) m (effect q m (s.Spawn None l)) t
      (λ r. spawned_lasts q m None (m.finished + 1) [] t (names_given q m number t h.sane out))
  step_lasts bound m (s.Spawn (Some p) l) number t u h fit out still = one (version_at m.versions p)
    where
      one : (o : Option Version) → Lasts q m (unless_refused (child_refusal q bound m p l o) m (child_spawned m p l o)) t
      one None = lasts_still q m t
      one (Some w) = unless_lasts q (child_refusal q bound m p l (Some w)) m (child_spawned m p l (Some w)) t
          (λ r. spawned_lasts q m (Some p) (w.window + 1) l t (names_given q m number t h.sane out))
  step_lasts bound m (s.Lease id n) number t u h fit out still = one (version_at m.versions id)
    where
      one : (o : Option Version) → Lasts q m (unless_refused (lease_refusal q m id o) m (leased q m n o)) t
      one None = lasts_still q m t
      one (Some w) = unless_lasts q (lease_refusal q m id (Some w)) m (leased q m n (Some w)) t (λ r v at. record { before = v; live = at; runs = refl; events = refl })
  step_lasts bound m (s.Event n) number t u h fit out still = unless_lasts q (refusal q bound m (s.Event n)) m (effect q m (s.Event n)) t
      (λ r v at. record { before = v; live = at; runs = refl; events = refl })
  step_lasts bound m (s.Return n) number t u h fit out still = one (ticket_at m.tickets n) refl still
    where
      two : (r : Ticket) → ticket_at m.tickets n ≡ Some r → (o : Option Version) → version_at m.versions r.version ≡ o → ticket_at (without n m.tickets) number ≡ Some u → Lasts q m (home q m n r o) t
      two r is None of still = λ v at. record { before = v; live = at; runs = refl; events = refl }
      two r is (Some v) of still = home_lasts q (facts q law) m n r v number t is of h out (without_at n m.tickets number u still).0

      tickets_home : (r : Ticket) (o : Option Version) → (home q m n r o).tickets ≡ without n m.tickets
      tickets_home r None = refl
      tickets_home r (Some v) = refl

      one : (o : Option Ticket) → ticket_at m.tickets n ≡ o → ticket_at (unless_refused (return_refusal n o) m (returned q m n o)).tickets number ≡ Some u
          → Lasts q m (unless_refused (return_refusal n o) m (returned q m n o)) t
      one None is still = lasts_still q m t
      one (Some r) is still = two r is (version_at m.versions r.version) refl
          (subst (λ (z : List Ticket). ticket_at z number ≡ Some u) (tickets_home r (version_at m.versions r.version)) still)
  step_lasts bound m (s.Roll id) number t u h fit out still = one (version_at m.versions id)
    where
      one : (o : Option Version) → Lasts q m (unless_refused (roll_refusal q m id o) m (rolled m o)) t
      one None = lasts_still q m t
      one (Some v) = unless_lasts q (roll_refusal q m id (Some v)) m (rolled m (Some v)) t (λ r. rolled_lasts q m v t h.sane (names_given q m number t h.sane out))
  step_lasts bound m s.Finish number t u h fit out still = one (root_in m.versions) refl
    where
      one : (o : Option Version) → root_in m.versions ≡ o → Lasts q m (unless_refused (finish_refusal m o) m (finished_one q m o)) t
      one None is = lasts_still q m t
      one (Some r) is = unless_lasts q (finish_refusal m (Some r)) m (finished_one q m (Some r)) t (λ y.
          let done = not_false r.done (passes_if (not r.done) _ _ y).0 in
          lasts_on q m (popped q m r) (settled q (popped q m r) (root_in (popped q m r).versions)) t
          (popped_lasts q m r t h.sane)
          (settled_lasts q (popped q m r) (root_in (popped q m r).versions) t (pop_sane q (facts q law) m r is done h) (names_given q m number t h.sane out)))
