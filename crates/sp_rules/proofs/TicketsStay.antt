-- A ticket that is out before a step and after it is the same one but for what was read of it.
use Rattle.std.proofs.Common.{◌≡◌, ◌≢◌, ℕ, ◌+◌, ◌≤◌, Bool, true, cond, ◌==◌, ◌&&◌, nat_lt, nat_le, false, List, ◌∷◌, Option, Some, None, is_some, ⊎_elim, refl, sym, subst, arith}
use Rattle.sp_plan.specs.declared.plan.Plan.{Plan}
use Rattle.sp_group.specs.declared.refusal.Refusal.{Refusal}
use Rattle.sp_group.specs.declared.step.Step.{Step}
use Rattle.sp_group.specs.declared.step.Step.TheVariants as s
use Rattle.sp_group.specs.Machine.{Version, Ticket, Machine, version_at, ticket_at, root_in, conflict}
use Rattle.sp_group.specs.Refusing.{refusal}
use Rattle.sp_group.specs.Effects.{child_spawned, lent, leased, read_if, read_on, without, home, returned, rolled, popped, settled, finished_one, effect}
use Rattle.sp_group.specs.Steps.{unless_refused, step}
use Rattle.sp_rules.specs.Kept.{Kept}
use Rattle.sp_rules.specs.StayingLent.{IsReadOn}
use Rattle.sp_rules.proofs.Tickets.{ticket_cases, without_at, touched_at}

-- What a step does to the tickets: nothing, or one ends, or one is read on, or one goes out under the next number.
data TicketsGo (m : Machine) : List Ticket → Type 0 where
  stay : TicketsGo m m.tickets
  end : (n : ℕ) → TicketsGo m (without n m.tickets)
  read : (n : ℕ) → TicketsGo m (read_on n m.tickets)
  lend : (t : Ticket) → t.number ≡ m.next_ticket → TicketsGo m (t ∷ m.tickets)

settling : (q : Plan) (m p : Machine) (o : Option Version) → p.tickets ≡ m.tickets → TicketsGo m (settled q p o).tickets
settling q m p None same = subst (λ (ts : List Ticket). TicketsGo m ts) (sym same) stay
settling q m p (Some v) same = one (is_some (conflict q p v))
  where
    one : (b : Bool) → TicketsGo m (cond b (rolled p (Some v)) p).tickets
    one true = subst (λ (ts : List Ticket). TicketsGo m ts) (sym same) stay
    one false = subst (λ (ts : List Ticket). TicketsGo m ts) (sym same) stay

goes : (q : Plan) (m : Machine) (x : Step) → TicketsGo m (effect q m x).tickets
goes q m (s.Feed e) = stay
goes q m s.End = stay
goes q m (s.Spawn None label) = stay
goes q m (s.Spawn (Some p) label) = spawning (version_at m.versions p)
  where
    spawning : (o : Option Version) → TicketsGo m (child_spawned m p label o).tickets
    spawning None = stay
    spawning (Some u) = stay
goes q m (s.Lease id n) = leasing (version_at m.versions id)
  where
    leasing : (o : Option Version) → TicketsGo m (leased q m n o).tickets
    leasing None = stay
    leasing (Some v) = lend (lent q m n v) refl
goes q m (s.Event n) = read n
goes q m (s.Return n) = returning (ticket_at m.tickets n)
  where
    coming : (t : Ticket) (o : Option Version) → TicketsGo m (home q m n t o).tickets
    coming t None = end n
    coming t (Some v) = end n

    returning : (o : Option Ticket) → TicketsGo m (returned q m n o).tickets
    returning None = stay
    returning (Some t) = coming t (version_at m.versions t.version)
goes q m (s.Roll id) = rolling (version_at m.versions id)
  where
    rolling : (o : Option Version) → TicketsGo m (rolled m o).tickets
    rolling None = stay
    rolling (Some v) = stay
goes q m s.Finish = finishing (root_in m.versions)
  where
    finishing : (o : Option Version) → TicketsGo m (finished_one q m o).tickets
    finishing None = stay
    finishing (Some v) = settling q m (popped q m v) (root_in (popped q m v).versions) refl

step_goes : (q : Plan) (bound : ℕ) (m : Machine) (x : Step) → TicketsGo m (step q bound m x).tickets
step_goes q bound m x = one (refusal q bound m x)
  where
    one : (o : Option Refusal) → TicketsGo m (unless_refused o m (effect q m x)).tickets
    one None = goes q m x
    one (Some why) = stay

-- a ticket that is found under one number twice
found_again : (ts : List Ticket) (n : ℕ) (t u : Ticket) → ticket_at ts n ≡ Some t → ticket_at ts n ≡ Some u → IsReadOn t u
found_again ts n t u there still =
    let same : t ≡ u = cc in
    subst (λ (z : Ticket). IsReadOn t z) same (record { same = refl; further = omega arith; closing = λ shut. shut })

-- a ticket that is read on, or not
is_read_on : (b : Bool) (t : Ticket) → IsReadOn t (read_if b t)
is_read_on b t = record {
  same = refl;
  further = further (b && nat_lt t.read t.count);
  closing = closing (b && nat_le t.count t.read);
}
  where
    further : (c : Bool) → t.read ≤ cond c (t.read + 1) t.read
    further true = omega arith
    further false = omega arith

    closing : (c : Bool) → t.closing_read ≡ true → cond c true t.closing_read ≡ true
    closing true shut = refl
    closing false shut = shut

-- so a ticket that is out stays the same but for what is read of it
stays_out : (q : Plan) (m : Machine) (ts : List Ticket) (number : ℕ) (t u : Ticket) → Kept q m → TicketsGo m ts → ticket_at m.tickets number ≡ Some t → ticket_at ts number ≡ Some u → IsReadOn t u
stays_out q m ts number t u h stay there still = found_again m.tickets number t u there still
stays_out q m ts number t u h (end n) there still = found_again m.tickets number t u there (without_at n m.tickets number u still).1
stays_out q m ts number t u h (read n) there still =
    let old = touched_at n m.tickets number u still in
    let same : old.0 ≡ t = cc in
    subst (λ (z : Ticket). IsReadOn t z) (sym old.2) (subst (λ (z : Ticket). IsReadOn t (read_if (number == n) z)) (sym same) (is_read_on (number == n) t))
stays_out q m ts number t u h (lend new next) there still = ⊎_elim
    (λ (y : (new.number ≡ number) × (new ≡ u)).
    let given = h.sane.numbers number t there in
    let same = y.0 in
    absurd (omega (arith, next, given, same)))
    (λ (y : (new.number ≢ number) × (ticket_at m.tickets number ≡ Some u)). found_again m.tickets number t u there y.1)
    (ticket_cases new m.tickets number u still)

pub step_reads_on : (q : Plan) (bound : ℕ) (m : Machine) (x : Step) (number : ℕ) (t u : Ticket) → Kept q m → ticket_at m.tickets number ≡ Some t
    → ticket_at (step q bound m x).tickets number ≡ Some u → IsReadOn t u
step_reads_on q bound m x number t u h there still = stays_out q m (step q bound m x).tickets number t u h (step_goes q bound m x) there still
