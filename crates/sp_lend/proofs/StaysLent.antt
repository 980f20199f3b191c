-- What was lent stays so, whatever step is taken.
use Rattle.std.proofs.Common.{◌≡◌, ℕ, ◌<◌, ◌≤◌, zero, suc, ⊎_elim, Bool, true, false, cond, List, [], ◌∷◌, Option, Some, None, is_some, sym, ap, ◌∙◌, subst, refl, arith}
use Rattle.sp_plan.specs.declared.plan.Plan.{Plan}
use Rattle.sp_plan.specs.Compiled.{IsCompiled}
use Rattle.sp_plan.specs.Runs.{State}
use Rattle.sp_piece.specs.declared.job.Job.{Job}
use Rattle.sp_match.specs.public.Matching.{Stands}
use Rattle.sp_group.specs.declared.refusal.Refusal.{Refusal}
use Rattle.sp_group.specs.declared.step.Step.{Step}
use Rattle.sp_group.specs.declared.step.Step.TheVariants as s
use Rattle.sp_group.specs.Machine.{Machine, Ticket, Version, conflict, root_in, ticket_at, version_at}
use Rattle.sp_group.specs.Refusing.{refusal}
use Rattle.sp_group.specs.Effects.{any_spawned, child_spawned, effect, finished_one, home, lent, leased, popped, returned, rolled, settled, without}
use Rattle.sp_group.specs.Steps.{step, steps, unless_refused}
use Rattle.sp_rules.specs.Kept.{Kept}
use Rattle.sp_rules.specs.Lawful.{Lawful}
use Rattle.sp_rules.specs.Returning.{read_to, reads_and_return}
use Rattle.sp_rules.specs.Schedules.{Fits, FitsStep}
use Rattle.sp_rules.specs.StayingLent.{LentStays}
use Rattle.sp_rules.proofs.Facts.{facts}
use Rattle.sp_rules.proofs.Steps.{step_keeps}
use Rattle.sp_rules.proofs.Tickets.{ticket_cases, touched_at, without_at}
use Rattle.sp_core.specs.Carrying.{Carries}
use Rattle.sp_core.specs.Running.{Running}
use Rattle.sp_lend.specs.Truth.{StaysTrue, WasLent}

-- Numbers of tickets go on, and what is out under one that was given before was out before.
record GoesOn (m n : Machine) : Type 0 where
  further : m.next_ticket ≤ n.next_ticket
  older : (number : ℕ) (u : Ticket) → number < m.next_ticket → ticket_at n.tickets number ≡ Some u → (t : Ticket) × (ticket_at m.tickets number ≡ Some t)

-- nothing else goes out
leaves : (m n : Machine) → n.tickets ≡ m.tickets → n.next_ticket ≡ m.next_ticket → GoesOn m n
leaves m n same next = record {
  further = omega (arith, next);
  older = λ number u given out. (u, ap (λ ts. ticket_at ts number) (sym same) ∙ out);
}

ends : (m n : Machine) (k : ℕ) → n.tickets ≡ without k m.tickets → n.next_ticket ≡ m.next_ticket → GoesOn m n
ends m n k left next = record {
  further = omega (arith, next);
  older = λ number u given out. (u, (without_at k m.tickets number u (ap (λ ts. ticket_at ts number) (sym left) ∙ out)).1);
}

module _ (q : Plan) (m : Machine) where
  of_spawn : (parent : Option ℕ) (label : List ℕ) → GoesOn m (any_spawned m parent label)
  of_spawn None label = leaves m (any_spawned m None label) refl refl
  of_spawn (Some p) label = one (version_at m.versions p)
    where
      one : (o : Option Version) → GoesOn m (child_spawned m p label o)
      one None = leaves m m refl refl
      one (Some u) = leaves m (child_spawned m p label (Some u)) refl refl

  of_lease : (n : ℕ) (o : Option Version) → GoesOn m (leased q m n o)
  of_lease n None = leaves m m refl refl
  of_lease n (Some v) = record {
    further = omega arith;
    older = λ number u given out. ⊎_elim (λ new. let same = new.0 in absurd (omega (arith, given, same))) (λ old. (u, old.1)) (ticket_cases (lent q m n v) m.tickets number u out);
  }

  of_return : (n : ℕ) (o : Option Ticket) → GoesOn m (returned q m n o)
  of_return n None = leaves m m refl refl
  of_return n (Some t) = one (version_at m.versions t.version)
    where
      one : (o : Option Version) → GoesOn m (home q m n t o)
      one None = ends m (home q m n t None) n refl refl
      one (Some v) = ends m (home q m n t (Some v)) n refl refl

  of_roll : (p : Machine) (o : Option Version) → p.tickets ≡ m.tickets → p.next_ticket ≡ m.next_ticket → GoesOn m (rolled p o)
  of_roll p None same next = leaves m p same next
  of_roll p (Some v) same next = leaves m (rolled p (Some v)) same next

  of_finish : (o : Option Version) → GoesOn m (finished_one q m o)
  of_finish None = leaves m m refl refl
  of_finish (Some v) = one (root_in (popped q m v).versions)
    where
      two : (u : Version) (b : Bool) → GoesOn m (cond b (rolled (popped q m v) (Some u)) (popped q m v))
      two u true = of_roll (popped q m v) (Some u) refl refl
      two u false = leaves m (popped q m v) refl refl

      one : (o : Option Version) → GoesOn m (settled q (popped q m v) o)
      one None = leaves m (popped q m v) refl refl
      one (Some u) = two u (is_some (conflict q (popped q m v) u))

  of_effect : (x : Step) → GoesOn m (effect q m x)
  of_effect (s.Feed e) = leaves m (effect q m (s.Feed e)) refl refl
  of_effect s.End = leaves m (effect q m s.End) refl refl
  of_effect (s.Spawn parent label) = of_spawn parent label
  of_effect (s.Lease id n) = of_lease n (version_at m.versions id)
  of_effect (s.Event n) = record {
    further = omega arith;
    older = λ number u given out. let t = touched_at n m.tickets number u out in (t.0, t.1);
  }
  of_effect (s.Return n) = of_return n (ticket_at m.tickets n)
  of_effect (s.Roll id) = of_roll m (version_at m.versions id) refl refl
  of_effect s.Finish = of_finish (root_in m.versions)

  of_step : (bound : ℕ) (x : Step) → GoesOn m (step q bound m x)
  of_step bound x = one (refusal q bound m x)
    where
      one : (o : Option Refusal) → GoesOn m (unless_refused o m (effect q m x))
      one None = of_effect x
      one (Some why) = leaves m m refl refl

module _ (stays : LentStays) (q : Plan) (bound : ℕ) (compiled : IsCompiled q) where
  module _ (m : Machine) (x : Step) (kept : Kept q m) (fits : FitsStep q bound m x) (job : Job) (was : WasLent q m job) where
    abbrev n : Machine
    n = step q bound m x

    still_carries : (t u : Ticket) (v : Version) → ticket_at m.tickets job.ticket ≡ Some t → ticket_at n.tickets job.ticket ≡ Some u → version_at n.versions u.version ≡ Some v
        → Carries q n u v job
    still_carries t u v there out live =
        let law = stays q bound m x job.ticket t u compiled kept fits there out in
        let same : u ≡ read_to t u.read u.closing_read = law.0.same in
        let lasts = law.1 v (ap (λ (z : Ticket). version_at n.versions z.version) (sym same) ∙ live) in
        let k = was.carries t lasts.before there lasts.live in
        subst (λ (z : Ticket). Carries q n z v job) (sym same) (record {
          ticket = k.ticket;
          version = k.version;
          first = k.first;
          events = k.events ∙ sym lasts.events;
          snapshot = k.snapshot;
          closes = k.closes;
          plan = k.plan;
          stands = subst (λ (z : State). Stands job.before z) (sym lasts.runs) k.stands;
        })

    still_lent : WasLent q n job
    still_lent =
        let on = of_step q m bound x in
        record {
          before = let first = was.before in let last = on.further in omega (arith, first, last);
          carries = λ u v out live. let t = on.older job.ticket u was.before out in still_carries t.0 u v t.1 out live;
        }

  module _ (lawful : Lawful q) (job : Job) where
    all_still : (xs : List Step) (m : Machine) → Kept q m → Fits q bound m xs → WasLent q m job → WasLent q (steps q bound m xs) job
    all_still [] m kept fits was = was
    all_still (x ∷ xs) m kept fits was =
        all_still xs (step q bound m x) (step_keeps q (facts q lawful) bound m x fits.0 kept) fits.1 (still_lent m x kept fits.0 job was)

-- readings and a return always fit
always_fit : (q : Plan) (bound : ℕ) (n times : ℕ) (m : Machine) → Fits q bound m (reads_and_return n times)
always_fit q bound n zero m = (tt, tt)
always_fit q bound n (suc times) m = (tt, always_fit q bound n times (step q bound m (s.Event n)))

-- so the jobs of a register stay true
pub stays_true : LentStays → (c : Running) → IsCompiled c.plan → Lawful c.plan → Kept c.plan c.machine → StaysTrue c
stays_true stays c compiled lawful kept = record {
  stepping = λ x jobs fits passes each place job at.
      let done : step c.plan c.bound c.machine x ≡ effect c.plan c.machine x =
      ap (λ o. unless_refused o c.machine (effect c.plan c.machine x)) passes in
      subst (λ (m : Machine). WasLent c.plan m job) done (still_lent stays c.plan c.bound compiled c.machine x kept fits job (each place job at));
  returning = λ n times jobs each place job at.
      all_still stays c.plan c.bound compiled lawful job (reads_and_return n times) c.machine kept (always_fit c.plan c.bound n times c.machine) (each place job at);
}
