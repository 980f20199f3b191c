-- What goes out with a lease, and comes back.
use Rattle.std.specs.Prelude.{◌≡◌, ◌-◌, false, List, take, drop}
use Rattle.sp_plan.specs.declared.event.Event.{Event}
use Rattle.sp_plan.specs.declared.plan.Plan.{Plan}
use Rattle.sp_plan.specs.Same.{SamePlan}
use Rattle.sp_match.specs.public.Matching.{Stands}
use Rattle.sp_piece.specs.declared.job.Job.{Job}
use Rattle.sp_group.specs.Machine.{Machine, Ticket, Version, inner}
use Rattle.sp_core.specs.declared.lent.Lent.{Lent}

-- a ticket of the machine of which nothing is read yet, as it is kept
abbrev pub ticket_of : Lent → Ticket
ticket_of l = record {
  number = l.ticket;
  version = l.version;
  first = l.first;
  count = l.count;
  snapshot = l.snapshot.list;
  closes = l.closes;
  read = 0;
  closing_read = false;
}

-- the events that a ticket lends
abbrev pub lent_events : List Event → Ticket → List Event
lent_events events t = take t.count (drop (t.first - 1) events)

-- A job carries what a ticket lends: the same values, the events, and a matcher with the core's plan, but for where its parts lie in
-- memory, which stands for the runs of the version.
pub record Carries (q : Plan) (m : Machine) (t : Ticket) (v : Version) (job : Job) : Type 0 where
  pub ticket : job.ticket ≡ t.number
  pub version : job.version ≡ t.version
  pub first : job.first ≡ t.first
  pub events : job.events ≡ lent_events m.events t
  pub snapshot : job.snapshot.list ≡ t.snapshot
  pub closes : job.closes ≡ t.closes
  pub plan : SamePlan job.before.plan q
  pub stands : Stands job.before (inner q m.events v)
