-- What is reported of a call: the core of a run that was done, as it ended, with the histories of core and hub.
use Rattle.std.specs.Prelude.{◌≡◌, ◌≢◌, ℕ, ℤ, Bool, true, List, length, Option, Some, None}
use Rattle.sp_io.specs.Outside.{Told, ToldFiles, Gave}
use Rattle.sp_plan.specs.declared.event.Event.{Event}
use Rattle.sp_plan.specs.declared.plan.Plan.{Plan}
use Rattle.sp_plan.specs.Windows.{windows}
use Rattle.sp_group.specs.Steps.{replay}
use Rattle.sp_spread.specs.Journaled.{fed}
use Rattle.sp_spread.specs.Limiting.{AsksAtMost}
use Rattle.sp_split.specs.declared.ended.Ended.{Ended}
use Rattle.sp_split.specs.declared.ended.Why.TheVariants as why
use Rattle.sp_split.specs.Driving.{CameAbout, most_asked}
use Rattle.sp_slack.specs.declared.late.LateRule.{LateRule}
use Rattle.sp_intake.specs.Loose.{Lateness}
use Rattle.sp_load.specs.Places.{Place}
use Rattle.sp_load.specs.Queries.{IsPlanAt, IsPlanFor}
use Rattle.sp_answer.specs.declared.status.Status.{Status}
use Rattle.sp_answer.specs.Outcome.{number_of}
use Rattle.sp_cli.specs.Commands.{Command, Speed, QuerySource, run, drill}
use Rattle.sp_gen.specs.Generated.{generated}
use Rattle.sp_drill.specs.Query.{drill_query}
use Rattle.sp_commands.specs.Commands.{place_of, lateness, IsCall, IsReported}
use Rattle.sp_commands.specs.Ends.{came, came_within}

-- V and T are the tables and the values of the predictors that are left, of which nothing is said here
module _ {V : Type 0} {T : V → Type 0} where
  -- A run of this speed over the whole input, of which these events came, ended so.
  pub record Reports (speed : Speed) (given : List Event) (e : Ended V T) : Type 0 where
    pub whole : e.why ≡ why.Whole
    pub bound : e.core.bound ≡ speed.live
    -- all windows of the events are finished
    pub events : e.core.machine.events ≡ given
    pub ended : e.core.machine.ended ≡ true
    pub finished : e.core.machine.finished ≡ length (windows e.core.plan e.core.machine.events true)
    -- the journal tells how it came to that: these events were fed, and its steps, taken again, lead to the same state
    pub feeds : fed e.core.journal ≡ e.core.machine.events
    pub replays : replay e.core.plan e.core.bound e.core.journal ≡ e.core.machine
    -- and the entries of the hub which instances had a part in it
    pub about : CameAbout speed.instances e.core e.history
    -- and no lease asks for more events than a run of this speed may
    pub asked : AsksAtMost (most_asked e.core.plan speed.instances speed.batch) e.core.journal

  -- The words are a run by one tree, which tells lines or lists proofs, or a drill, and it ended so: a run by a plan of the query that stands there,
  -- over the bytes that were taken; a drill by a plan of its query, over the rows that it generated.
  pub data ReportsCall (predictors words : List (List ℕ)) (held : ToldFiles) (old new : Told) (e : Ended V T) : Type 0 where
    of_run : (query : QuerySource) (speed : Speed) (slack : ℤ) (late : LateRule) (proof : Bool) (taken : List ℕ)
        → IsCall predictors words (run query speed slack late 1 proof)
        → IsPlanAt held (place_of query) e.core.plan → Gave old taken new → Reports speed (came_within e.core.plan (lateness slack late) taken true).events e
        → ReportsCall predictors words held old new e
    of_drill : (events seed : ℕ) (speed : Speed) → IsCall predictors words (drill events seed speed) → IsPlanFor drill_query e.core.plan
        → Reports speed (came e.core.plan (generated events seed) true).events e → ReportsCall predictors words held old new e

  -- what is reported of a call that answered this number: the end of a run by one tree or of a drill where it was done, and else nothing
  abbrev pub Reported : List (List ℕ) → List (List ℕ) → ToldFiles → Told → Told → ℕ → Option (Ended V T) → Type 0
  Reported predictors words held old new result (Some e) = (result ≡ 0) × ReportsCall predictors words held old new e
  Reported predictors words held old new result None = (command : Command) → IsReported command → IsCall predictors words command → result ≢ 0

  -- ---- before the line of the status is told

  -- a run of this plan ended so, whose events may be late by so much
  abbrev pub ReportsPlan : Plan → Lateness → Speed → Told → Told → Ended V T → Type 0
  ReportsPlan q l speed old new e = (e.core.plan ≡ q) × (bytes : List ℕ) × Gave old bytes new × Reports speed (came_within e.core.plan l bytes true).events e

  -- a run of the query that stands there ended so
  abbrev pub ReportsPlace : ToldFiles → Place → Lateness → Speed → Told → Told → Ended V T → Type 0
  ReportsPlace held place l speed old new e =
      IsPlanAt held place e.core.plan × (bytes : List ℕ) × Gave old bytes new × Reports speed (came_within e.core.plan l bytes true).events e

  -- a drill over so many rows of this seed ended so
  abbrev pub ReportsDrill : ℕ → ℕ → Speed → Ended V T → Type 0
  ReportsDrill events seed speed e = IsPlanFor drill_query e.core.plan × Reports speed (came e.core.plan (generated events seed) true).events e

  -- where the status is one of success, there is an end, and it is such a one
  abbrev pub WhereDone : (Ended V T → Type 0) → Status → Option (Ended V T) → Type 0
  WhereDone Is status (Some e) = number_of status ≡ 0 → Is e
  WhereDone Is status None = number_of status ≢ 0

  -- the same of a call whose words are a run by one tree or a drill; for other words there is no end
  abbrev pub Reporting : List (List ℕ) → List (List ℕ) → ToldFiles → Told → Told → Status → Option (Ended V T) → Type 0
  Reporting predictors words held old new status (Some e) = number_of status ≡ 0 → ReportsCall predictors words held old new e
  Reporting predictors words held old new status None = (command : Command) → IsReported command → IsCall predictors words command → number_of status ≢ 0
