-- The tickets of live versions that are out are as many as the versions for which one is, and grow by one at a lease alone.
use Rattle.std.proofs.Common.{◌≡◌, ℕ, zero, suc, ◌+◌, ◌<◌, ◌≤◌, Bool, true, false, cond, List, ◌∷◌, length, Option, Some, None, is_some, ⊎_elim, refl, sym, ap, ◌∙◌, subst, arith}
use Rattle.sp_plan.specs.declared.plan.Plan.{Plan}
use Rattle.sp_plan.specs.Compiled.{IsCompiled}
use Rattle.sp_group.specs.declared.refusal.Refusal.{Refusal}
use Rattle.sp_group.specs.declared.step.Step.{Step}
use Rattle.sp_group.specs.declared.step.Step.TheVariants as s
use Rattle.sp_group.specs.Machine.{Version, Ticket, Machine, version_at, ticket_at, is_out, root_in, inner, conflict}
use Rattle.sp_group.specs.Refusing.{lease_refusal, refusal}
use Rattle.sp_group.specs.Effects.{child_spawned, leased, without, read_on, home, returned, rolled, popped, settled, finished_one, effect}
use Rattle.sp_group.specs.Steps.{unless_refused, is_lease, out_count, step, steps}
use Rattle.sp_rules.specs.Kept.{Kept}
use Rattle.sp_rules.specs.Lawful.{Lawful}
use Rattle.sp_rules.specs.Returning.{reads, reads_and_return}
use Rattle.sp_rules.specs.Schedules.{FitsStep, Onward, Reached}
use Rattle.sp_rules.proofs.Facts.{Facts, facts}
use Rattle.sp_rules.proofs.Lists.{below_or}
use Rattle.sp_rules.proofs.Onward.{step_onward}
use Rattle.sp_rules.proofs.Steps.{step_keeps}
use Rattle.sp_rules.proofs.Tree.{at_id, at_some}
use Rattle.sp_spread.specs.Laws.{IsStale, OutIsCounted}
use Rattle.sp_spread.proofs.LiveTickets.{live_tickets, fewer_live, fewer_without, fewer_read, ends, same_ends, as_many}

-- What a step that is no lease does to the tickets: nothing, or one ends, or one is read on.
data Dwindles (ts : List Ticket) : List Ticket → Type 0 where
  stay : Dwindles ts ts
  end : (n : ℕ) → Dwindles ts (without n ts)
  read : (n : ℕ) → Dwindles ts (read_on n ts)

dwindles : (q : Plan) (m : Machine) (x : Step) → is_lease x ≡ false → Dwindles m.tickets (effect q m x).tickets
dwindles q m (s.Feed e) other = stay
dwindles q m s.End other = stay
dwindles q m (s.Spawn None label) other = stay
dwindles q m (s.Spawn (Some p) label) other = one (version_at m.versions p)
  where
    one : (o : Option Version) → Dwindles m.tickets (child_spawned m p label o).tickets
    one None = stay
    one (Some u) = stay
dwindles q m (s.Lease id n) other = absurd (cc)
dwindles q m (s.Event n) other = read n
dwindles q m (s.Return n) other = one (ticket_at m.tickets n)
  where
    two : (t : Ticket) (o : Option Version) → Dwindles m.tickets (home q m n t o).tickets
    two t None = end n
    two t (Some v) = end n

    one : (o : Option Ticket) → Dwindles m.tickets (returned q m n o).tickets
    one None = stay
    one (Some t) = two t (version_at m.versions t.version)
dwindles q m (s.Roll id) other = one (version_at m.versions id)
  where
    one : (o : Option Version) → Dwindles m.tickets (rolled m o).tickets
    one None = stay
    one (Some v) = stay
dwindles q m s.Finish other = one (root_in m.versions)
  where
    three : (p : Machine) (v : Version) (b : Bool) → Dwindles p.tickets (cond b (rolled p (Some v)) p).tickets
    three p v true = stay
    three p v false = stay

    two : (p : Machine) (o : Option Version) → Dwindles p.tickets (settled q p o).tickets
    two p None = stay
    two p (Some v) = three p v (is_some (conflict q p v))

    one : (o : Option Version) → Dwindles m.tickets (finished_one q m o).tickets
    one None = stay
    one (Some v) = two (popped q m v) (root_in (popped q m v).versions)

step_dwindles : (q : Plan) (bound : ℕ) (m : Machine) (x : Step) → is_lease x ≡ false → Dwindles m.tickets (step q bound m x).tickets
step_dwindles q bound m x other = one (refusal q bound m x)
  where
    one : (o : Option Refusal) → Dwindles m.tickets (unless_refused o m (effect q m x)).tickets
    one None = dwindles q m x other
    one (Some why) = stay

fewer : (vs : List Version) (ts us : List Ticket) → Dwindles ts us → length (live_tickets vs us) ≤ length (live_tickets vs ts)
fewer vs ts us stay = omega arith
fewer vs ts us0 (end n) = fewer_without vs n ts
fewer vs ts us0 (read n) = fewer_read vs n ts

-- no ticket is out for a version that becomes live
none_born : (q : Plan) (m n : Machine) → Kept q m → Onward q m n → (id : ℕ) → is_out m.tickets id ≡ true → is_some (version_at n.versions id) ≡ true → is_some (version_at m.versions id) ≡ true
none_born q m n kept on id out live = ⊎_elim
    (λ (below : id < m.next_id).
    let after = at_some n.versions id live in
    let before = on id after.0 after.1 below in
    ap is_some before.1)
    (λ (given : m.next_id ≤ id). let no = kept.sane.unborn id given in absurd (cc))
    (below_or id m.next_id)

no_more : (q : Plan) → Facts q → (bound : ℕ) (m : Machine) → Kept q m → (x : Step) → FitsStep q bound m x → is_lease x ≡ false → out_count (step q bound m x) ≤ out_count m
no_more q k bound m kept x fit other =
    let n : Machine = step q bound m x in
    let a = fewer n.versions m.tickets n.tickets (step_dwindles q bound m x other) in
    let b = fewer_live m.versions n.versions m.tickets (none_born q m n kept (step_onward q k bound m x fit kept)) in
    omega arith

by_reads : (q : Plan) → Facts q → (bound n times : ℕ) (m : Machine) → Kept q m → out_count (steps q bound m (reads n times)) ≤ out_count m
by_reads q k bound n zero m kept = omega arith
by_reads q k bound n (suc times) m kept =
    let a = by_reads q k bound n times (step q bound m (s.Event n)) (step_keeps q k bound m (s.Event n) tt kept) in
    let b = no_more q k bound m kept (s.Event n) tt refl in
    omega arith

by_home : (q : Plan) → Facts q → (bound n times : ℕ) (m : Machine) → Kept q m → out_count (steps q bound m (reads_and_return n times)) ≤ out_count m
by_home q k bound n zero m kept = no_more q k bound m kept (s.Return n) tt refl
by_home q k bound n (suc times) m kept =
    let a = by_home q k bound n times (step q bound m (s.Event n)) (step_keeps q k bound m (s.Event n) tt kept) in
    let b = no_more q k bound m kept (s.Event n) tt refl in
    omega arith

by_lease : (q : Plan) (bound : ℕ) (m : Machine) (id n : ℕ) → refusal q bound m (s.Lease id n) ≡ None → out_count (effect q m (s.Lease id n)) ≡ out_count m + 1
by_lease q bound m id n passes = one (version_at m.versions id) refl passes
  where
    two : (b : Bool) (t : Ticket) → b ≡ true → length (cond b (t ∷ live_tickets m.versions m.tickets) (live_tickets m.versions m.tickets)) ≡ length (live_tickets m.versions m.tickets) + 1
    two true t is = omega arith
    two false t is = absurd (cc)

    one : (o : Option Version) → version_at m.versions id ≡ o → lease_refusal q m id o ≡ None → out_count (leased q m n o) ≡ out_count m + 1
    one None is passes = absurd (cc)
    one (Some v) is passes = two (is_some (version_at m.versions v.id)) _ (ap is_some (subst (λ (k : ℕ). version_at m.versions k ≡ Some v) (sym (at_id m.versions id v is)) is))

-- what the return of a stale ticket does
pub stale_is : (q : Plan) (m : Machine) (n : ℕ) → IsStale m n → effect q m (s.Return n) ≡ record m { tickets = without n m.tickets }
stale_is q m n stale =
    subst (λ (o : Option Ticket). returned q m n o ≡ record m { tickets = without n m.tickets }) (sym stale.out)
    (subst (λ (o : Option Version). home q m n stale.ticket o ≡ record m { tickets = without n m.tickets }) (sym stale.gone) refl)

by_stale : (q : Plan) (m : Machine) → Kept q m → (n : ℕ) → IsStale m n → out_count (effect q m (s.Return n)) ≡ out_count m
by_stale q m kept n stale =
    ap out_count (stale_is q m n stale)
    ∙ same_ends m.versions stale.ticket m.tickets (without n m.tickets) stale.gone (ends n stale.ticket m.tickets kept.sane.newest_first stale.out)

pub out_is_counted : (q : Plan) (bound : ℕ) (m : Machine) → Lawful q → IsCompiled q → Reached q bound m → OutIsCounted q bound m
out_is_counted q bound m law compiled reached =
    let k : Facts q = facts q law in
    let kept : Kept q m = reached.kept in
    record {
      versions = as_many q (inner q m.events) m.finished m.versions m.tickets kept.sane.shape kept.sane.newest_first
          (λ id v at. (kept.sane.each id v at).only);
      no_more = λ x fit other. no_more q k bound m kept x fit other;
      by_reads = λ n times. by_reads q k bound n times m kept;
      by_home = λ n times. by_home q k bound n times m kept;
      by_lease = λ id n passes. by_lease q bound m id n passes;
      by_stale = λ n stale. by_stale q m kept n stale;
    }
