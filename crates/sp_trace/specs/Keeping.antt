-- What a tracer keeps, and for which run it stands.
use Rattle.std.specs.Prelude.{◌≡◌, ℕ, List, length, take}
use Rattle.sp_plan.specs.declared.event.Event.{Event}
use Rattle.sp_plan.specs.declared.plan.Plan.{Plan}
use Rattle.sp_plan.specs.Events.{AllFit, NeverGoesBack}
use Rattle.sp_group.specs.Steps.{Answered, Fed, Ended, Spawned, Leased, Read, Closed, Home, Stale, Rolled, Finished, Nothing}
use Rattle.sp_core.specs.Benched.{Benched}
use Rattle.sp_trace.specs.Traced.{Tracing}

abbrev pub tracing : Plan → List Event → Benched → Tracing
tracing q events bench = record { plan = q; bound = bench.bound; events = events; machine = bench.machine }

-- how many events are fed after an answer
abbrev pub fed_after : ℕ → Answered → ℕ
fed_after before (Fed number) = number
fed_after before Ended = before
fed_after before (Spawned id) = before
fed_after before (Leased ticket) = before
fed_after before (Read number skipped) = before
fed_after before Closed = before
fed_after before Home = before
fed_after before Stale = before
fed_after before (Rolled id) = before
fed_after before (Finished window matches root) = before
fed_after before Nothing = before

-- The bench has the plan, and the first of the events were fed to it, so many; they fit the plan and never go back in time.
pub record IsTracing (q : Plan) (events : List Event) (fed : ℕ) (bench : Benched) : Type 0 where
  pub plan : bench.plan ≡ q
  pub count : length bench.machine.events ≡ fed
  pub first : bench.machine.events ≡ take fed events
  pub fit : AllFit q events
  pub ordered : NeverGoesBack events
