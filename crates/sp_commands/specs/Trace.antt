-- What a trace comes to: the machine over the input, as a schedule steps it.
use Rattle.std.specs.Prelude.{◌≡◌, ◌⊎◌, ◌≤◌, ℕ, Bool, List, [], length, if◌then◌else◌}
use Rattle.sp_base.specs.Limits.{query_limit, schedule_limit}
use Rattle.sp_io.specs.Outside.{ToldFiles, HoldsFile, HoldsLonger}
use Rattle.sp_plan.specs.declared.event.Event.{Event}
use Rattle.sp_plan.specs.declared.plan.Plan.{Plan}
use Rattle.sp_sched.specs.Schedules.{IsSchedule, IsBadLine}
use Rattle.sp_sched.specs.declared.step.TraceStep.{TraceStep}
use Rattle.sp_trace.specs.Traced.{traced}
use Rattle.sp_ports.specs.Stopping.{is_end}
use Rattle.sp_ports.specs.declared.stop.Stop.{Stop}
use Rattle.sp_load.specs.Places.{Place, HasText, IsLonger}
use Rattle.sp_load.specs.Queries.{IsPlanFor, IsFaulty}
use Rattle.sp_answer.specs.Outcome.{Outcome, nothing_for}
use Rattle.sp_answer.specs.declared.status.Status.{Status}
use Rattle.sp_answer.specs.declared.status.Status.TheVariants.{Memory, Query, Limited, Schedule}
use Rattle.sp_commands.specs.Ends.{came, reading_outcome}

-- the printed run, where the input was read to its end
abbrev pub trace_text : ℕ → List TraceStep → Plan → List Event → Stop → List ℕ
trace_text bound steps q events stop = if is_end stop then traced q bound events steps else []

-- what a trace of a plan by these steps comes to over these bytes
abbrev pub trace_outcome : Plan → ℕ → List TraceStep → List ℕ → Bool → Outcome
trace_outcome q bound steps bytes ended = reading_outcome (came q) (trace_text bound steps q) bytes ended

abbrev pub IsPlanTrace : Plan → ℕ → List TraceStep → List ℕ → Bool → Outcome → Type 0
IsPlanTrace q bound steps bytes ended o = o ≡ trace_outcome q bound steps bytes ended

-- The outcome of a query's text and a schedule's: the query's first fault, else the first bad line of the schedule, else a trace.
pub data TextsOutcome (query schedule : List ℕ) (bound : ℕ) (bytes : List ℕ) (ended : Bool) : Outcome → Type 0 where
  faulty : (code at : ℕ) → IsFaulty query code at → TextsOutcome query schedule bound bytes ended (nothing_for (Query code at))
  bad_line : (q : Plan) (line : ℕ) → IsPlanFor query q → IsBadLine schedule line
      → TextsOutcome query schedule bound bytes ended (nothing_for (Schedule line))
  traces : (q : Plan) (steps : List TraceStep) → IsPlanFor query q → IsSchedule schedule steps
      → TextsOutcome query schedule bound bytes ended (trace_outcome q bound steps bytes ended)

-- the file of this name holds this, within the limit of a schedule
abbrev pub HasSchedule : ToldFiles → List ℕ → List ℕ → Type 0
HasSchedule held name content = HoldsFile held name content × (length content ≤ schedule_limit)

-- The outcome of a trace of the query that stands there by the schedule in the file of this name: the length of the query counts first,
-- then that of the schedule, and then their texts.
pub data TraceOutcome (place : Place) (name : List ℕ) (bound : ℕ) (held : ToldFiles) (bytes : List ℕ) (ended : Bool) : Outcome → Type 0 where
  long_query : IsLonger held query_limit place → TraceOutcome place name bound held bytes ended (nothing_for (Limited query_limit))
  long_schedule : (text : List ℕ) → HasText held place text → HoldsLonger held name schedule_limit
      → TraceOutcome place name bound held bytes ended (nothing_for (Limited schedule_limit))
  of_texts : (text content : List ℕ) (o : Outcome) → HasText held place text → HasSchedule held name content
      → TextsOutcome text content bound bytes ended o → TraceOutcome place name bound held bytes ended o

-- ---- its parts

-- the texts are refused, whatever the bound and the input are, or memory ran out
abbrev pub RefusesTrace : List ℕ → List ℕ → Status → Type 0
RefusesTrace query schedule status =
    (status ≡ Memory)
    ⊎ ((bound : ℕ) (bytes : List ℕ) (ended : Bool) → TextsOutcome query schedule bound bytes ended (nothing_for status))
