-- What a drill comes to: the summary of its query over generated rows.
use Rattle.std.specs.Prelude.{◌≡◌, ℕ, true, List, [], length}
use Rattle.sp_base.specs.Numbers.{with_numbers}
use Rattle.sp_io.specs.Outside.{SinkState, Grew, GrewWithin, Rose}
use Rattle.sp_plan.specs.declared.event.Event.{Event}
use Rattle.sp_plan.specs.declared.plan.Plan.{Plan}
use Rattle.sp_plan.specs.Windows.{windows}
use Rattle.sp_plan.specs.Sequential.{whole}
use Rattle.sp_emit.specs.Summary.{summary}
use Rattle.sp_gen.specs.Generated.{generated}
use Rattle.sp_drill.specs.Query.{drill_query}
use Rattle.sp_intake.specs.Reading.{read}
use Rattle.sp_load.specs.Queries.{IsPlanFor}
use Rattle.sp_answer.specs.Outcome.{Outcome, outcome}
use Rattle.sp_answer.specs.declared.status.Status.{Status}
use Rattle.sp_answer.specs.declared.status.Status.TheVariants.{Done, Memory, Write}

-- the summary of a whole input of these events: how many they are, the windows that they open, the matches of these one after another, and
-- the events that the matches consume
abbrev pub summary_of : Plan → List Event → List ℕ
summary_of q events =
    let progress = whole q events true in
    summary (length events) (length (windows q events true)) (length progress.matches) (length (with_numbers [] progress.consumed))

-- the text of a drill by a plan, over so many rows of this seed
abbrev pub drill_text : Plan → ℕ → ℕ → List ℕ
drill_text q events seed = summary_of q (read q (generated events seed) true).events

-- The outcome of a drill: it is done, and its text is that of a plan of the drill's query.
abbrev pub DrillOutcome : ℕ → ℕ → Outcome → Type 0
DrillOutcome events seed o = (q : Plan) × IsPlanFor drill_query q × (o ≡ outcome Done (drill_text q events seed))

-- A line was written by one call, and this status is answered: the output failed, or there was no memory for the line and no call.
pub data WritesSummary (line : List ℕ) (old new : SinkState) : Status → Type 0 where
  written : Grew old.held line new.held → new.faults ≡ old.faults → WritesSummary line old new Done
  failed : GrewWithin old.held line new.held → Rose old.faults new.faults → WritesSummary line old new Write
  no_memory : new ≡ old → WritesSummary line old new Memory
