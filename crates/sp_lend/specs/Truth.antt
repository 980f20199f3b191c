-- What is true of jobs with a receipt.
use Rattle.std.specs.Prelude.{◌≡◌, ℕ, ◌<◌, List, Option, Some, None, IfSome, slice_get}
use Rattle.sp_plan.specs.declared.plan.Plan.{Plan}
use Rattle.sp_group.specs.declared.step.Step.{Step}
use Rattle.sp_group.specs.Machine.{Machine, Ticket, Version, ticket_at, version_at}
use Rattle.sp_piece.specs.declared.job.Job.{Job}
use Rattle.sp_rules.specs.Schedules.{FitsStep}
use Rattle.sp_core.specs.Carrying.{Carries}
use Rattle.sp_core.specs.Returning.{after_return}
use Rattle.sp_core.specs.Running.{Running, after, refused}
use Rattle.sp_lend.specs.declared.loan.Receipt.{Receipt}

-- a receipt, where there is one, is for that job
abbrev pub Vouches : {L : Type 0} → Option (Receipt L) → Job → Type 0
Vouches {L} receipt job = IfSome receipt (λ r. slice_get r.front r.place ≡ Some job)

-- A job was lent, and carries what is out under its ticket, if that is out still for a live version.
pub record WasLent (q : Plan) (m : Machine) (job : Job) : Type 0 where
  pub before : job.ticket < m.next_ticket
  pub carries : (t : Ticket) (v : Version) → ticket_at m.tickets job.ticket ≡ Some t → version_at m.versions t.version ≡ Some v → Carries q m t v job

-- all entered jobs were lent
abbrev pub AreTrue : Running → List Job → Type 0
AreTrue c jobs = (place : ℕ) (job : Job) → slice_get jobs place ≡ Some job → WasLent c.plan c.machine job

-- Whatever step a core takes, jobs that were lent stay so; and they do where a piece comes home.
pub record StaysTrue (c : Running) : Type 0 where
  pub stepping : (x : Step) (jobs : List Job) → FitsStep c.plan c.bound c.machine x → refused c x ≡ None → AreTrue c jobs → AreTrue (after c x) jobs
  pub returning : (n times : ℕ) (jobs : List Job) → AreTrue c jobs → AreTrue (after_return c n times) jobs
