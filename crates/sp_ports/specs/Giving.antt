-- What an intake gives: events that fit a plan and never go back in time, up to an end or a stop.
use Rattle.std.specs.Prelude.{◌≤◌, List, [], ◌∷◌, length, Option, Some, None}
use Rattle.sp_base.specs.Limits.{event_limit}
use Rattle.sp_plan.specs.declared.event.Event.{Event}
use Rattle.sp_plan.specs.declared.plan.Plan.{Plan}
use Rattle.sp_plan.specs.WindowNumbers.{Good}
use Rattle.sp_ports.specs.declared.intake.Next.{Next}
use Rattle.sp_ports.specs.declared.intake.Next.TheVariants as next

-- the event that an answer gives, if it gives one
abbrev pub given_by : Next → List Event
given_by (next.Event e) = e ∷ []
given_by next.End = []
given_by (next.Stop why) = []
given_by next.Memory = []

-- the event that an answer at hand gives, if there is one and it gives one
abbrev pub given_at : Option Next → List Event
given_at None = []
given_at (Some answer) = given_by answer

-- events that an engine takes: they fit the plan, their times never go back, and there are at most 1,048,576
pub record AreGood (q : Plan) (events : List Event) : Type 0 where
  pub good : Good q events
  pub few : length events ≤ event_limit
