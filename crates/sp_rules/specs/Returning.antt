-- What the readings of a ticket and its return do, taken one after another.
use Rattle.std.specs.Prelude.{◌≡◌, ℕ, ◌+◌, ◌<◌, ◌≤◌, Bool, true, false, List, [], ◌∷◌, ◌++◌, Some, None, map, replicate, ◌==◌, if◌then◌else◌}
use Rattle.sp_plan.specs.declared.plan.Plan.{Plan}
use Rattle.sp_group.specs.declared.step.Step.{Step}
use Rattle.sp_group.specs.declared.step.Step.TheVariants as s
use Rattle.sp_group.specs.Machine.{Ticket, Machine, version_at, ticket_at}
use Rattle.sp_group.specs.Refusing.{refusal}
use Rattle.sp_group.specs.Effects.{home}
use Rattle.sp_group.specs.Steps.{step, steps}
use Rattle.sp_rules.specs.Kept.{NewestFirst}

-- a ticket of which so many events were read, and perhaps the closing
abbrev pub read_to : Ticket → ℕ → Bool → Ticket
read_to t k closed = record t { read = k; closing_read = closed }

-- the tickets, of which the one of that number is read so far
abbrev pub tickets_read : ℕ → ℕ → Bool → List Ticket → List Ticket
tickets_read n k closed tickets = map (λ t. if t.number == n then read_to t k closed else t) tickets

-- a reading for each event, and one for the closing where it was read too
abbrev pub readings : ℕ → Bool → ℕ
readings k closed = if closed then k + 1 else k

-- so many readings of a ticket
abbrev pub reads : ℕ → ℕ → List Step
reads n times = replicate times (s.Event n)

-- the readings of a ticket, and its return
abbrev pub reads_and_return : ℕ → ℕ → List Step
reads_and_return n times = reads n times ++ s.Return n ∷ []

-- Nothing of the ticket was read, and it lends so many events; the closing is read only behind all of them, where it is lent.
pub record LendsSoFar (t : Ticket) (k : ℕ) (closed : Bool) : Type 0 where
  pub unread : t.read ≡ 0
  pub unclosed : t.closing_read ≡ false
  pub within : k ≤ t.count
  pub last : closed ≡ true → (t.closes ≡ true) × (k ≡ t.count)

-- None of these readings is refused, nor the return behind them; the readings bring the ticket so far, and leave all else; and the return
-- brings home what was read.
pub record IsReadAndReturned (q : Plan) (bound : ℕ) (m : Machine) (n : ℕ) (t : Ticket) (k : ℕ) (closed : Bool) : Type 0 where
  pub accepts_reads : (j : ℕ) → j < readings k closed → refusal q bound (steps q bound m (reads n j)) (s.Event n) ≡ None
  pub accepts_return : refusal q bound (steps q bound m (reads n (readings k closed))) (s.Return n) ≡ None
  pub found : ticket_at (steps q bound m (reads n (readings k closed))).tickets n ≡ Some (read_to t k closed)
  pub read : NewestFirst m.tickets → steps q bound m (reads n (readings k closed)) ≡ record m { tickets = tickets_read n k closed m.tickets }
  pub comes : step q bound (steps q bound m (reads n (readings k closed))) (s.Return n) ≡ home q m n (read_to t k closed) (version_at m.versions t.version)
  pub whole : steps q bound m (reads_and_return n (readings k closed)) ≡ home q m n (read_to t k closed) (version_at m.versions t.version)

-- A ticket of which nothing was read is read so far, and returned.
abbrev pub ReadingsAndReturn : Type 0
ReadingsAndReturn = (q : Plan) (bound : ℕ) (m : Machine) (n : ℕ) (t : Ticket) (k : ℕ) (closed : Bool) → ticket_at m.tickets n ≡ Some t → LendsSoFar t k closed
    → IsReadAndReturned q bound m n t k closed
