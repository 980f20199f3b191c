-- What a bench keeps, and for which state of the machine it stands.
use Rattle.std.specs.Prelude.{◌≡◌, ◌≤◌, false, List, map, length, None, Some}
use Rattle.std.specs.List.{All}
use Rattle.sp_base.specs.Limits.{live_limit}
use Rattle.sp_plan.specs.Compiled.{IsCompiled}
use Rattle.sp_group.specs.declared.step.Step.{Step}
use Rattle.sp_group.specs.Machine.{Ticket, Version, opening, version_at}
use Rattle.sp_group.specs.Refusing.{event_refusal}
use Rattle.sp_group.specs.Steps.{Answered, Home, Nothing, Stale, steps}
use Rattle.sp_piece.specs.Pieced.{Pieced}
use Rattle.sp_rules.specs.Returning.{ReadingsAndReturn, read_to}
use Rattle.sp_rules.specs.Schedules.{EverySchedule, Fits}
use Rattle.sp_rules.specs.StayingLent.{LentStays}
use Rattle.sp_core.specs.declared.fault.CoreFault.{CoreFault}
use Rattle.sp_core.specs.declared.fault.CoreFault.TheVariants as f
use Rattle.sp_core.specs.declared.given.Given.{Given}
use Rattle.sp_core.specs.declared.given.Given.TheVariants as g
use Rattle.sp_core.specs.Running.{Running}
use Rattle.sp_core.specs.Carrying.{Carries}
use Rattle.sp_core.specs.Settling.{IsWithin}
use Rattle.sp_core.specs.Benched.{Benched}

-- what the rules say of steps, and of the pieces of a bench
pub record BenchLaws : Type 0 where
  pub schedules : EverySchedule
  pub stays : LentStays
  pub returns : ReadingsAndReturn

-- the ticket of a piece, read as far as the piece is
abbrev pub ticket_in : Pieced → Ticket
ticket_in p = record {
  number = p.job.ticket;
  version = p.job.version;
  first = p.job.first;
  count = length p.job.events;
  snapshot = p.job.snapshot.list;
  closes = p.job.closes;
  read = p.read;
  closing_read = p.closed;
}

-- the same ticket, before anything of it was read
abbrev pub unread : Ticket → Ticket
unread t = read_to t 0 false

-- the state of the machine: the core's, with the tickets as far as their pieces are read
abbrev pub on_bench : Running → List Pieced → Benched
on_bench c pieces = record { plan = c.plan; bound = c.bound; machine = record c.machine { tickets = map ticket_in pieces } }

-- a piece was not given up, has read no more than was lent to it, and its job is what is out under its ticket, where its version is live
pub record IsHeld (c : Running) (p : Pieced) : Type 0 where
  pub whole : p.short ≡ false
  pub within : IsWithin p
  pub carries : (v : Version) → version_at c.machine.versions p.job.version ≡ Some v → Carries c.plan c.machine (unread (ticket_in p)) v p.job

-- something is left to read of a piece
abbrev pub IsReadable : Pieced → Type 0
IsReadable p = event_refusal p.job.ticket (Some (ticket_in p)) ≡ None

-- a piece is not read on where its ticket is not; want of memory may come at any time
abbrev pub IsReadFault : Pieced → CoreFault → Type 0
IsReadFault p (f.Refused why) = event_refusal p.job.ticket (Some (ticket_in p)) ≡ Some why
IsReadFault p f.Memory = Unit {0}

-- a piece was taken back: it came home, or its version is no longer live
abbrev pub HasCome : Given → Type 0
HasCome g.Home = Unit {0}
HasCome (g.Stale id) = Unit {0}
HasCome (g.NotOut n) = ⊥
HasCome (g.Differs lent piece) = ⊥

-- what a return answers then
abbrev pub came : Given → Answered
came g.Home = Home
came (g.Stale id) = Stale
came (g.NotOut n) = Nothing
came (g.Differs lent piece) = Nothing

-- There is a piece for each ticket of the core, in their order; and steps lead to the state of the bench.
pub record IsOnBench (c : Running) (pieces : List Pieced) : Type 0 where
  pub compiled : IsCompiled c.plan
  pub some : 1 ≤ c.bound
  pub most : c.bound ≤ live_limit
  pub tickets : map unread (map ticket_in pieces) ≡ c.machine.tickets
  pub held : All (IsHeld c) pieces
  pub taken : List Step
  pub fits : Fits c.plan c.bound opening taken
  pub leads : steps c.plan c.bound opening taken ≡ (on_bench c pieces).machine
