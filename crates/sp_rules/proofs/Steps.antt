-- Every step keeps what every state keeps, and so does every list of steps.
use Rattle.std.proofs.Common.{◌≡◌, ℕ, ◌+◌, ◌≤◌, Bool, true, false, not, nat_lt, nat_le, List, [], ◌∷◌, length, Option, Some, None, is_some, refl, arith}
use Rattle.std.proofs.lemmas.Bool.Decides.{nat_tests}
use Rattle.sp_plan.specs.declared.plan.Plan.{Plan}
use Rattle.sp_plan.specs.WindowNumbers.{count}
use Rattle.sp_group.specs.declared.refusal.Refusal.{Refusal}
use Rattle.sp_group.specs.declared.step.Step.{Step}
use Rattle.sp_group.specs.declared.step.Step.TheVariants as s
use Rattle.sp_group.specs.Machine.{Version, Ticket, Machine, opening, version_at, ticket_at, out_for, root_in, conflict}
use Rattle.sp_group.specs.Refusing.{refuse_if, refuse_for, id_of, child_with, not_open, has_nothing_to_read, is_read_whole, child_refusal, lease_refusal, event_refusal, return_refusal, roll_refusal, finish_refusal, refusal}
use Rattle.sp_group.specs.Effects.{child_spawned, leased, home, returned, rolled, finished_one, effect}
use Rattle.sp_group.specs.Steps.{unless_refused, step, steps}
use Rattle.sp_rules.specs.Kept.{Kept}
use Rattle.sp_rules.specs.Schedules.{FitsStep, Fits}
use Rattle.sp_rules.proofs.Facts.{Facts}
use Rattle.sp_rules.proofs.Tickets.{free_is}
use Rattle.sp_rules.proofs.Feeding.{feed_keeps, end_keeps}
use Rattle.sp_rules.proofs.Spawning.{spawn_root_keeps, spawn_child_keeps}
use Rattle.sp_rules.proofs.Leasing.{lease_keeps, event_keeps, stale_keeps}
use Rattle.sp_rules.proofs.Home.{home_keeps}
use Rattle.sp_rules.proofs.Roll.{roll_keeps}
use Rattle.sp_rules.proofs.Finish.{finish_keeps}

-- where nothing is refused, the first cause does not hold, and the rest refuses nothing
pub passes_if : (b : Bool) (why : Refusal) (rest : Option Refusal) → refuse_if b why rest ≡ None → (b ≡ false) × (rest ≡ None)
passes_if true why rest h = absurd (cc)
passes_if false why rest h = (refl, h)

pub passes_for : (o : Option ℕ) (why : ℕ → Refusal) (rest : Option Refusal) → refuse_for o why rest ≡ None → (o ≡ None) × (rest ≡ None)
passes_for (Some n) why rest h = absurd (cc)
passes_for None why rest h = (refl, h)

pub lt_false : (a b : ℕ) → nat_lt a b ≡ false → b ≤ a
lt_false a b h = grind (arith, nat_tests)

pub not_false : (b : Bool) → not b ≡ false → b ≡ true
not_false true h = refl
not_false false h = absurd (cc)

pub no_id : (o : Option Version) → id_of o ≡ None → o ≡ None
no_id None h = refl
no_id (Some v) h = absurd (cc)

unless_keeps : (q : Plan) (o : Option Refusal) (old new : Machine) → Kept q old → (o ≡ None → Kept q new) → Kept q (unless_refused o old new)
unless_keeps q None old new h k = k refl
unless_keeps q (Some c) old new h k = h

-- what is known where the spawn of a root is not refused
pub root_open : (q : Plan) (bound : ℕ) (m : Machine) (l : List ℕ) → refusal q bound m (s.Spawn None l) ≡ None → (root_in m.versions ≡ None) × (m.finished + 1 ≤ count q m.events)
root_open q bound m l r =
    let a = passes_for (id_of (root_in m.versions)) _ _ r in
    let b = passes_if (nat_lt (count q m.events) (m.finished + 1)) _ _ a.1 in
    (no_id (root_in m.versions) a.0, lt_false (count q m.events) (m.finished + 1) b.0)

-- what is known where the spawn of a child is not refused
pub record ChildOpen (q : Plan) (bound : ℕ) (m : Machine) (p : ℕ) (l : List ℕ) (u : Version) : Type 0 where
  pub window : u.window + 1 ≤ count q m.events
  pub names : not_open q m u l ≡ None
  pub free : child_with m.versions p l ≡ None
  pub few : nat_le bound (length m.versions) ≡ false

pub child_open : (q : Plan) (bound : ℕ) (m : Machine) (p : ℕ) (l : List ℕ) (u : Version) → child_refusal q bound m p l (Some u) ≡ None → ChildOpen q bound m p l u
child_open q bound m p l u r =
    let a = passes_if (nat_lt (count q m.events) (u.window + 1)) _ _ r in
    let b = passes_for (not_open q m u l) _ _ a.1 in
    let c = passes_for (child_with m.versions p l) _ _ b.1 in
    let d = passes_if (nat_le bound (length m.versions)) _ _ c.1 in
    record { window = lt_false (count q m.events) (u.window + 1) a.0; names = b.0; free = c.0; few = d.0 }

pub step_keeps : (q : Plan) → Facts q → (bound : ℕ) (m : Machine) (x : Step) → FitsStep q bound m x → Kept q m → Kept q (step q bound m x)
step_keeps q k bound m (s.Feed e) fit h = unless_keeps q (refusal q bound m (s.Feed e)) m (effect q m (s.Feed e)) h (λ r. feed_keeps q k m e (fit r) (passes_if m.ended _ _ r).0 h)
step_keeps q k bound m s.End fit h = unless_keeps q (refusal q bound m s.End) m (effect q m s.End) h (λ r. end_keeps q k m (passes_if m.ended _ _ r).0 h)
step_keeps q k bound m (s.Spawn None l) fit h = unless_keeps q (refusal q bound m (s.Spawn None l)) m (effect q m (s.Spawn None l)) h
    (λ r. let a = root_open q bound m l r in spawn_root_keeps q m a.0 a.1 h)
step_keeps q k bound m (s.Spawn (Some p) l) fit h = one (version_at m.versions p) refl
  where
    one : (o : Option Version) → version_at m.versions p ≡ o → Kept q (unless_refused (child_refusal q bound m p l o) m (child_spawned m p l o))
    one None e = h
    one (Some u) e = unless_keeps q (child_refusal q bound m p l (Some u)) m (child_spawned m p l (Some u)) h
        (λ r. let a = child_open q bound m p l u r in spawn_child_keeps q m p l u e a.window a.names a.free fit h)
step_keeps q k bound m (s.Lease id n) fit h = one (version_at m.versions id) refl
  where
    one : (o : Option Version) → version_at m.versions id ≡ o → Kept q (unless_refused (lease_refusal q m id o) m (leased q m n o))
    one None e = h
    one (Some v) e = unless_keeps q (lease_refusal q m id (Some v)) m (leased q m n (Some v)) h (λ r.
        let a = passes_for (out_for m.tickets v.id) _ _ r in
        let b = passes_for (conflict q m v) _ _ a.1 in
        lease_keeps q m id n v e (free_is m.tickets v.id a.0) (passes_if (has_nothing_to_read q m v) _ _ b.1).0 h)
step_keeps q k bound m (s.Event n) fit h = one (ticket_at m.tickets n) refl
  where
    one : (o : Option Ticket) → ticket_at m.tickets n ≡ o → Kept q (unless_refused (event_refusal n o) m (effect q m (s.Event n)))
    one None e = h
    one (Some t) e = unless_keeps q (event_refusal n (Some t)) m (effect q m (s.Event n)) h (λ r. event_keeps q m n t e (passes_if (is_read_whole t) _ _ r).0 h)
step_keeps q k bound m (s.Return n) fit h = one (ticket_at m.tickets n) refl
  where
    two : (t : Ticket) → ticket_at m.tickets n ≡ Some t → (o : Option Version) → version_at m.versions t.version ≡ o → Kept q (home q m n t o)
    two t e None e' = stale_keeps q m n h
    two t e (Some v) e' = home_keeps q k m n t v e e' h

    one : (o : Option Ticket) → ticket_at m.tickets n ≡ o → Kept q (unless_refused (return_refusal n o) m (returned q m n o))
    one None e = h
    one (Some t) e = two t e (version_at m.versions t.version) refl
step_keeps q k bound m (s.Roll id) fit h = one (version_at m.versions id) refl
  where
    one : (o : Option Version) → version_at m.versions id ≡ o → Kept q (unless_refused (roll_refusal q m id o) m (rolled m o))
    one None e = h
    one (Some v) e = unless_keeps q (roll_refusal q m id (Some v)) m (rolled m (Some v)) h (λ r. roll_keeps q m id v e (not_false (is_some (conflict q m v)) (passes_if (not (is_some (conflict q m v))) _ _ r).0) h)
step_keeps q k bound m s.Finish fit h = one (root_in m.versions) refl
  where
    one : (o : Option Version) → root_in m.versions ≡ o → Kept q (unless_refused (finish_refusal m o) m (finished_one q m o))
    one None e = h
    one (Some v) e = unless_keeps q (finish_refusal m (Some v)) m (finished_one q m (Some v)) h (λ r. finish_keeps q k m v e (not_false v.done (passes_if (not v.done) _ _ r).0) h)

pub opening_kept : (q : Plan) → Facts q → Kept q opening
opening_kept q k = record {
  sane = record { shape = tt; each = λ id v e. absurd (cc); ids = λ id v e. absurd (cc); newest_first = tt; numbers = λ n t e. absurd (cc); unborn = λ id l. refl; emitted = refl; consumed = refl; good = k.good_none; closed = omega arith };
  clear = λ id v e root i x. absurd (cc);
}

-- steps keep what one step keeps
pub steps_keep : (q : Plan) → Facts q → (bound : ℕ) (xs : List Step) (m : Machine) → Fits q bound m xs → Kept q m → Kept q (steps q bound m xs)
steps_keep q k bound [] m f h = h
steps_keep q k bound (x ∷ xs) m f h = steps_keep q k bound xs (step q bound m x) f.1 (step_keeps q k bound m x f.0 h)
