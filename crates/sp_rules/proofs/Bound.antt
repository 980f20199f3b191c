-- Live versions are at most as many as the bound, and a step is refused as full exactly where a child that could be spawned is, at the bound.
use Rattle.std.proofs.Common.{◌≡◌, ℕ, suc, ◌+◌, ◌<◌, ◌≤◌, Bool, true, false, cond, not, ◌&&◌, ◌==◌, nat_lt, nat_le, List, [], ◌∷◌, length, find, Option, Some, None, is_some, refl, sym, ap, ◌∙◌, subst, arith}
use Rattle.std.proofs.lemmas.Bool.Decides.{nat_tests}
use Rattle.sp_base.specs.Limits.{event_limit}
use Rattle.sp_plan.specs.declared.plan.Plan.{Plan}
use Rattle.sp_plan.specs.Runs.{State}
use Rattle.sp_plan.specs.WindowNumbers.{count}
use Rattle.sp_group.specs.declared.refusal.Refusal.{Refusal}
use Rattle.sp_group.specs.declared.refusal.Refusal.TheVariants as r
use Rattle.sp_group.specs.declared.step.Step.{Step}
use Rattle.sp_group.specs.declared.step.Step.TheVariants as s
use Rattle.sp_group.specs.Family.{is_parent, parent_there, kept, prune}
use Rattle.sp_group.specs.Machine.{Version, Ticket, Machine, kin, version_at, ticket_at, out_for, root_in, is_group, conflict, inner}
use Rattle.sp_group.specs.Refusing.{refuse_if, refuse_for, id_of, same_list, child_with, not_open, has_nothing_to_read, is_read_whole, child_refusal, lease_refusal, event_refusal, return_refusal, roll_refusal, finish_refusal, refusal}
use Rattle.sp_group.specs.Effects.{child_spawned, leased, after_ticket, after_reading, but, home, returned, rolled, promoted, popped, settled, finished_one, effect}
use Rattle.sp_group.specs.Steps.{unless_refused, step, steps}
use Rattle.sp_rules.specs.Kept.{Shape, Sane, Kept}
use Rattle.sp_rules.specs.Schedules.{Fits, CouldBeSpawned, KeepsBound}
use Rattle.sp_rules.proofs.Facts.{Facts}
use Rattle.sp_rules.proofs.Labels.{child_is}
use Rattle.sp_rules.proofs.Lists.{and_left, and_right, find_none, none_found}
use Rattle.sp_rules.proofs.Spawning.{same_is, not_taken}
use Rattle.sp_rules.proofs.Tree.{at_head, at_later, at_id}
use Rattle.sp_rules.proofs.Locals.{root_is, rootless}
use Rattle.sp_rules.proofs.Finish.{pop_sane}
use Rattle.sp_rules.proofs.Steps.{passes_if, lt_false, not_false, root_open, child_open, step_keeps}

prune_few : (k : Version → Option Version) (vs : List Version) → length (prune kin k vs) ≤ length vs
prune_few k [] = omega arith
prune_few k (v ∷ vs) = one (k v) (prune_few k vs)
  where
    two : (v' : Version) (b : Bool) → length (prune kin k vs) ≤ length vs → length (cond b (v' ∷ prune kin k vs) (prune kin k vs)) ≤ suc (length vs)
    two v' true l = omega arith
    two v' false l = omega arith

    one : (o : Option Version) → length (prune kin k vs) ≤ length vs → length (kept kin o (prune kin k vs)) ≤ suc (length vs)
    one None l = omega arith
    one (Some v') l = two v' (parent_there kin (prune kin k vs) v'.parent) l

-- where a version goes, there are fewer
but_fewer : (a : ℕ) (vs : List Version) (v : Version) → version_at vs a ≡ Some v → length (prune kin (but a) vs) < length vs
but_fewer a [] v e = absurd (cc)
but_fewer a (x ∷ vs) v e = one (x.id == a) refl (prune_few (but a) vs) (but_fewer a vs v)
  where
    two : (b : Bool) → length (prune kin (but a) vs) < length vs → length (cond b (x ∷ prune kin (but a) vs) (prune kin (but a) vs)) < suc (length vs)
    two true l = omega arith
    two false l = omega arith

    one : (b : Bool) → (x.id == a) ≡ b → length (prune kin (but a) vs) ≤ length vs → (version_at vs a ≡ Some v → length (prune kin (but a) vs) < length vs) → length (kept kin (cond b None (Some x)) (prune kin (but a) vs)) < suc (length vs)
    one true i l k = omega arith
    one false i l k = two (parent_there kin (prune kin (but a) vs) x.parent) (k (grind (arith, nat_tests)))

unless_few : (bound : ℕ) (o : Option Refusal) (m new : Machine) → length m.versions ≤ bound → (o ≡ None → length new.versions ≤ bound) → length (unless_refused o m new).versions ≤ bound
unless_few bound None m new h k = k refl
unless_few bound (Some c) m new h k = h

settled_few : (q : Plan) (bound : ℕ) (m : Machine) (o : Option Version) → root_in m.versions ≡ o → Sane q m → length m.versions ≤ bound → length (settled q m o).versions ≤ bound
settled_few q bound m None e h l = l
settled_few q bound m (Some c) e h l = one (is_some (conflict q m c))
  where
    one : (b : Bool) → length (cond b (rolled m (Some c)) m).versions ≤ bound
    one true = let x = but_fewer c.id m.versions c (root_is q (inner q m.events) m.finished m.versions h.shape c e).0 in omega arith
    one false = l

step_few : (q : Plan) → Facts q → (bound : ℕ) (m : Machine) (x : Step) → 1 ≤ bound → Kept q m → length m.versions ≤ bound → length (step q bound m x).versions ≤ bound
step_few q k bound m (s.Feed e) b h l = unless_few bound (refusal q bound m (s.Feed e)) m (effect q m (s.Feed e)) l (λ r. l)
step_few q k bound m s.End b h l = unless_few bound (refusal q bound m s.End) m (effect q m s.End) l (λ r. l)
step_few q k bound m (s.Spawn None label) b h l = unless_few bound (refusal q bound m (s.Spawn None label)) m (effect q m (s.Spawn None label)) l (λ r.
    let e = rootless q (inner q m.events) m.finished m.versions h.sane.shape (root_open q bound m label r).0 in
    let e' : length m.versions ≡ 0 = ap length e in omega arith)
step_few q k bound m (s.Spawn (Some p) label) b h l = one (version_at m.versions p)
  where
    one : (o : Option Version) → length (unless_refused (child_refusal q bound m p label o) m (child_spawned m p label o)).versions ≤ bound
    one None = l
    one (Some u) = unless_few bound (child_refusal q bound m p label (Some u)) m (child_spawned m p label (Some u)) l (λ r.
        let d = (child_open q bound m p label u r).few in
        grind (arith, nat_tests))
step_few q k bound m (s.Lease id n) b h l = one (version_at m.versions id)
  where
    one : (o : Option Version) → length (unless_refused (lease_refusal q m id o) m (leased q m n o)).versions ≤ bound
    one None = l
    one (Some u) = unless_few bound (lease_refusal q m id (Some u)) m (leased q m n (Some u)) l (λ r. l)
step_few q k bound m (s.Event n) b h l = unless_few bound (refusal q bound m (s.Event n)) m (effect q m (s.Event n)) l (λ r. l)
step_few q k bound m (s.Return n) b h l = one (ticket_at m.tickets n)
  where
    two : (t : Ticket) (o : Option Version) → length (home q m n t o).versions ≤ bound
    two t None = l
    two t (Some v) = let x = prune_few (after_reading q v.id (after_ticket v t) (inner q m.events v) (inner q m.events (after_ticket v t))) m.versions in omega arith

    one : (o : Option Ticket) → length (unless_refused (return_refusal n o) m (returned q m n o)).versions ≤ bound
    one None = l
    one (Some t) = two t (version_at m.versions t.version)
step_few q k bound m (s.Roll id) b h l = one (version_at m.versions id) refl
  where
    one : (o : Option Version) → version_at m.versions id ≡ o → length (unless_refused (roll_refusal q m id o) m (rolled m o)).versions ≤ bound
    one None e = l
    one (Some v) e = unless_few bound (roll_refusal q m id (Some v)) m (rolled m (Some v)) l (λ r.
        let i = at_id m.versions id v e in
        let x = but_fewer v.id m.versions v (subst (λ (z : ℕ). version_at m.versions z ≡ Some v) (sym i) e) in omega arith)
step_few q k bound m s.Finish b h l = one (root_in m.versions) refl
  where
    one : (o : Option Version) → root_in m.versions ≡ o → length (unless_refused (finish_refusal m o) m (finished_one q m o)).versions ≤ bound
    one None e = l
    one (Some r) e = unless_few bound (finish_refusal m (Some r)) m (finished_one q m (Some r)) l (λ y.
        let d = not_false r.done (passes_if (not r.done) _ _ y).0 in
        let x = prune_few (promoted r.id) m.versions in
        settled_few q bound (popped q m r) (root_in (popped q m r).versions) refl (pop_sane q k m r e d h) (omega arith))

-- steps keep the bound
pub steps_few : (q : Plan) → Facts q → (bound : ℕ) (xs : List Step) (m : Machine) → 1 ≤ bound → Fits q bound m xs → Kept q m → length m.versions ≤ bound → length (steps q bound m xs).versions ≤ bound
steps_few q k bound [] m b f h l = l
steps_few q k bound (x ∷ xs) m b f h l = steps_few q k bound xs (step q bound m x) b f.1 (step_keeps q k bound m x f.0 h) (step_few q k bound m x b h l)

-- a refusal that is not the first cause comes from the rest
not_if : (b : Bool) {why refusal : Refusal} {rest : Option Refusal} → (why ≡ refusal → ⊥) → refuse_if b why rest ≡ Some refusal → rest ≡ Some refusal
not_if true other h = absurd (other (cc))
not_if false other h = h

not_for : (o : Option ℕ) {why : ℕ → Refusal} {refusal : Refusal} {rest : Option Refusal} → ((n : ℕ) → why n ≡ refusal → ⊥) → refuse_for o why rest ≡ Some refusal → rest ≡ Some refusal
not_for (Some n) other h = absurd (other n (cc))
not_for None other h = h

-- a refusal of another kind is not the first cause, which does not hold then
passed_if : (b : Bool) {why refusal : Refusal} (rest : Option Refusal) → (why ≡ refusal → ⊥) → refuse_if b why rest ≡ Some refusal → b ≡ false
passed_if true rest other h = absurd (other (cc))
passed_if false rest other h = refl

passed_for : (o : Option ℕ) {why : ℕ → Refusal} {refusal : Refusal} (rest : Option Refusal) → ((n : ℕ) → why n ≡ refusal → ⊥) → refuse_for o why rest ≡ Some refusal → o ≡ None
passed_for (Some n) rest other h = absurd (other n (cc))
passed_for None rest other h = refl

-- what is refused as full at the bound
abbrev AtBound : Plan → ℕ → Machine → Step → ℕ → ℕ → Type 0
AtBound q bound m x live of =
    (live ≡ bound) × (of ≡ bound) × (length m.versions ≡ bound)
    × ((p : ℕ) × (label : List ℕ) × (x ≡ s.Spawn (Some p) label) × CouldBeSpawned q m p label)

only_child : (q : Plan) (bound : ℕ) (m : Machine) → length m.versions ≤ bound → (x : Step) (live of : ℕ) → refusal q bound m x ≡ Some (r.Full live of) → AtBound q bound m x live of
only_child q bound m few (s.Feed e) live of h = absurd (one m.ended (nat_le event_limit (length m.events)) event_limit h)
  where
    one : (a b : Bool) (limit : ℕ) → refuse_if a r.AfterEnd (refuse_if b (r.TooManyEvents limit) None) ≡ Some (r.Full live of) → ⊥
    one true b limit h = cc
    one false true limit h = cc
    one false false limit h = cc
only_child q bound m few s.End live of h = let a = not_if m.ended (λ e. cc) h in absurd (cc)
only_child q bound m few (s.Spawn None label) live of h =
    let a = not_for (id_of (root_in m.versions)) (λ n e. cc) h in
    let b = not_if (nat_lt (count q m.events) (m.finished + 1)) (λ e. cc) a in
    let c = not_for (find (λ _. true) label) (λ n e. cc) b in absurd (cc)
only_child q bound m few (s.Spawn (Some p) label) live of h = one (version_at m.versions p) refl h
  where
    two : CouldBeSpawned q m p label → (b : Bool) → nat_le bound (length m.versions) ≡ b → refuse_if b (r.Full (length m.versions) bound) None ≡ Some (r.Full live of) → AtBound q bound m (s.Spawn (Some p) label) live of
    two could true is h =
        let at : bound ≤ length m.versions = grind (arith, nat_tests) in
        let all : length m.versions ≡ live = cc in
        let most : bound ≡ of = cc in
        (omega arith, sym most, omega arith, (p, label, refl, could))
    two could false is h = absurd (cc)

    one : (o : Option Version) → version_at m.versions p ≡ o → child_refusal q bound m p label o ≡ Some (r.Full live of) → AtBound q bound m (s.Spawn (Some p) label) live of
    one None there h = absurd (cc)
    one (Some u) there h =
        let a = not_if (nat_lt (count q m.events) (u.window + 1)) (λ e. cc) h in
        let b = not_for (not_open q m u label) (λ n e. cc) a in
        let c = not_for (child_with m.versions p label) (λ n e. cc) b in
        let begun = passed_if (nat_lt (count q m.events) (u.window + 1)) _ (λ e. cc) h in
        let opened = passed_for (not_open q m u label) _ (λ n e. cc) a in
        let free = passed_for (child_with m.versions p label) _ (λ n e. cc) b in
        two (record {
          parent = u;
          live = there;
          begun = lt_false (count q m.events) (u.window + 1) begun;
          names = λ run named. find_none run (is_group q (inner q m.events u)) label opened named;
          free = λ id w at o same. not_taken m.versions p label free id w at o same;
        }) (nat_le bound (length m.versions)) refl c
only_child q bound m few (s.Lease id n) live of h = absurd (one (version_at m.versions id) h)
  where
    one : (o : Option Version) → lease_refusal q m id o ≡ Some (r.Full live of) → ⊥
    one None h = cc
    one (Some v) h =
        let a = not_for (out_for m.tickets v.id) (λ n e. cc) h in
        let b = not_for (conflict q m v) (λ n e. cc) a in
        let c = not_if (has_nothing_to_read q m v) (λ e. cc) b in cc
only_child q bound m few (s.Event n) live of h = absurd (one (ticket_at m.tickets n) h)
  where
    one : (o : Option Ticket) → event_refusal n o ≡ Some (r.Full live of) → ⊥
    one None h = cc
    one (Some t) h = let a = not_if (is_read_whole t) (λ e. cc) h in cc
only_child q bound m few (s.Return n) live of h = absurd (one (ticket_at m.tickets n) h)
  where
    one : (o : Option Ticket) → return_refusal n o ≡ Some (r.Full live of) → ⊥
    one None h = cc
    one (Some t) h = cc
only_child q bound m few (s.Roll id) live of h = absurd (one (version_at m.versions id) h)
  where
    one : (o : Option Version) → roll_refusal q m id o ≡ Some (r.Full live of) → ⊥
    one None h = cc
    one (Some v) h = let a = not_if (not (is_some (conflict q m v))) (λ e. cc) h in cc
only_child q bound m few s.Finish live of h = absurd (one (root_in m.versions) h)
  where
    one : (o : Option Version) → finish_refusal m o ≡ Some (r.Full live of) → ⊥
    one None h = cc
    one (Some v) h = let a = not_if (not v.done) (λ e. cc) h in cc

-- where no child has a label, none with it is found
none_with : (q : Plan) (f : Version → State) (fin : ℕ) (vs : List Version) → Shape q f fin vs → (p : ℕ) (label : List ℕ)
    → ((id : ℕ) (w : Version) → version_at vs id ≡ Some w → w.parent ≡ Some p → w.label ≡ label → ⊥) → child_with vs p label ≡ None
none_with q f fin [] shape p label free = refl
none_with q f fin (x ∷ vs) shape p label free =
    one (is_parent p x.parent && same_list x.label label) refl
    (none_with q f fin vs shape.1 p label (λ id w at. free id w (at_later x vs id w (shape.0.newest id w at) at)))
  where
    one : (b : Bool) → (is_parent p x.parent && same_list x.label label) ≡ b → child_with vs p label ≡ None → cond b (Some x.id) (child_with vs p label) ≡ None
    one true is rest = absurd (free x.id x (at_head x vs) (child_is p x.parent (and_left (is_parent p x.parent) (same_list x.label label) is)) (same_is x.label label (and_right (is_parent p x.parent) (same_list x.label label) is)))
    one false is rest = rest

-- at the bound, what could be spawned but for that is refused as full
full_at : (q : Plan) (bound : ℕ) (m : Machine) → Kept q m → (p : ℕ) (label : List ℕ) → length m.versions ≡ bound → CouldBeSpawned q m p label
    → refusal q bound m (s.Spawn (Some p) label) ≡ Some (r.Full bound bound)
full_at q bound m h p label at could =
    let u = could.parent in
    let begun : nat_lt (count q m.events) (u.window + 1) ≡ false = let b = could.begun in grind (arith, nat_tests) in
    let opened : not_open q m u label ≡ None = none_found (is_group q (inner q m.events u)) label could.names in
    let free : child_with m.versions p label ≡ None = none_with q (inner q m.events) m.finished m.versions h.sane.shape p label could.free in
    let full : nat_le bound (length m.versions) ≡ true = grind (arith, nat_tests) in
    ap (λ (o : Option Version). child_refusal q bound m p label o) could.live
    ∙ ap (λ b. refuse_if b (r.NoWindow (u.window + 1)) (refuse_for (not_open q m u label) r.NotOpen (last (child_with m.versions p label) (nat_le bound (length m.versions))))) begun
    ∙ ap (λ (o : Option ℕ). refuse_for o r.NotOpen (last (child_with m.versions p label) (nat_le bound (length m.versions)))) opened
    ∙ ap (λ (o : Option ℕ). last o (nat_le bound (length m.versions))) free
    ∙ ap (λ b. refuse_if b (r.Full (length m.versions) bound) None) full
    ∙ ap (λ n. Some (r.Full n bound)) at
  where
    last : Option ℕ → Bool → Option Refusal
    last o b = refuse_for o r.LabelTaken (refuse_if b (r.Full (length m.versions) bound) None)

-- what a state keeps that has at most as many versions as the bound
pub keeps_bound : (q : Plan) (bound : ℕ) (m : Machine) → Kept q m → length m.versions ≤ bound → KeepsBound q bound m
keeps_bound q bound m h few = record {
  few = few;
  full = only_child q bound m few;
  at_bound = full_at q bound m h;
}
