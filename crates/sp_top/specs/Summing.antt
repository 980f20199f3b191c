-- What the summary of a drill is made of, and how it is written.
use Rattle.std.specs.Prelude.{◌≡◌, ◌≢◌, ◌≤◌, true, length, Option, Some}
use Rattle.sp_base.specs.Limits.{event_limit}
use Rattle.sp_io.specs.Outside.{SinkState}
use Rattle.sp_plan.specs.Windows.{windows}
use Rattle.sp_split.specs.declared.ended.Ended.{Ended}
use Rattle.sp_answer.specs.declared.status.Status.{Status}
use Rattle.sp_answer.specs.declared.status.Status.TheVariants.{Done}
use Rattle.sp_commands.specs.Drill.{summary_of, WritesSummary}

-- V and T are the tables and the values of the predictors that are left
module _ {V : Type 0} {T : V → Type 0} where
  -- a run ended with the windows of its events all finished, and had no more events than an input may have
  abbrev pub CanSum : Ended V T → Type 0
  CanSum e = (length e.core.machine.events ≤ event_limit) × (e.core.machine.finished ≡ length (windows e.core.plan e.core.machine.events true))

  -- Of a run with this status and end: where it was done its summary was written, and the new status is that of the writing; else nothing was.
  pub record SumsUp (status : Status) (ended : Option (Ended V T)) (old new : SinkState) (later : Status) : Type 0 where
    pub done : (e : Ended V T) → status ≡ Done → ended ≡ Some e → WritesSummary (summary_of e.core.plan e.core.machine.events) old new later
    pub other : status ≢ Done → (later ≡ status) × (new ≡ old)
