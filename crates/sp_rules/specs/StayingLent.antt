-- What is lent stays what it is while its ticket is out: whatever step is taken, the ticket is the same but for what was read of it, and the
-- runs from which it is read on are those of its version, if that is still live.
use Rattle.std.specs.Prelude.{◌≡◌, ◌≤◌, ℕ, true, Some}
use Rattle.sp_plan.specs.declared.plan.Plan.{Plan}
use Rattle.sp_plan.specs.Compiled.{IsCompiled}
use Rattle.sp_group.specs.declared.step.Step.{Step}
use Rattle.sp_group.specs.Machine.{Version, Ticket, Machine, version_at, ticket_at, inner}
use Rattle.sp_group.specs.Steps.{step}
use Rattle.sp_rules.specs.ComingHome.{events_lent}
use Rattle.sp_rules.specs.Kept.{Kept}
use Rattle.sp_rules.specs.Returning.{read_to}
use Rattle.sp_rules.specs.Schedules.{FitsStep}

-- A ticket is the same one but for what was read of it, and nothing that was read of it is taken back.
pub record IsReadOn (t u : Ticket) : Type 0 where
  pub same : u ≡ read_to t u.read u.closing_read
  pub further : t.read ≤ u.read
  pub closing : t.closing_read ≡ true → u.closing_read ≡ true

-- The version to which a ticket lends was live before; its runs are the same, and so are the events that the ticket lends.
pub record StaysLent (q : Plan) (m n : Machine) (t : Ticket) (after : Version) : Type 0 where
  pub before : Version
  pub live : version_at m.versions t.version ≡ Some before
  pub runs : inner q n.events after ≡ inner q m.events before
  pub events : events_lent n.events t ≡ events_lent m.events t

-- A ticket that is out before a step and after it is the same but for what was read of it, and stays lent where its version is live after it.
abbrev pub LentStays : Type 0
LentStays = (q : Plan) (bound : ℕ) (m : Machine) (x : Step) (number : ℕ) (t u : Ticket) → IsCompiled q → Kept q m → FitsStep q bound m x
    → ticket_at m.tickets number ≡ Some t → ticket_at (step q bound m x).tickets number ≡ Some u
    → IsReadOn t u × ((after : Version) → version_at (step q bound m x).versions t.version ≡ Some after → StaysLent q m (step q bound m x) t after)
