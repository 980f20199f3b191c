-- How a reader of events stands, and what it answers.
use Rattle.std.specs.Prelude.{◌≡◌, ℕ, false, Option, Some, None, if◌then◌else◌}
use Rattle.std.specs.Option.{option_map}
use Rattle.sp_io.specs.Outside.{SourceState}
use Rattle.sp_plan.specs.declared.plan.Plan.{Plan}
use Rattle.sp_ports.specs.Stopping.{is_end}
use Rattle.sp_ports.specs.declared.intake.Next.{Next}
use Rattle.sp_ports.specs.declared.intake.Next.TheVariants as next
use Rattle.sp_rows.specs.Progress.{plan_of}
use Rattle.sp_intake.specs.declared.events.EventReader.{EventReader}
use Rattle.sp_intake.specs.declared.reader.State.{State}
use Rattle.sp_intake.specs.declared.reader.State.TheVariants.{Going, Stopped, Broken}
use Rattle.sp_intake.specs.InOrder.{ReadsInOrder, AsksInOrder}
use Rattle.sp_intake.specs.Loose.{Lateness}
use Rattle.sp_intake.specs.Pieces.{AsksFrom}
use Rattle.sp_intake.specs.RowsSeen.{reader_of, rows_at, held_of, IsAsking}
use Rattle.sp_intake.specs.Standing.{Standing, ReadsFrom, IsIdle, seen, with_held}

-- the plan whose columns are read
abbrev pub plan_in : EventReader → Plan
plan_in events = plan_of events.rows.rows

-- how many events it has passed over
abbrev pub late_in : EventReader → ℕ
late_in events = (reader_of events.rows).late

-- how an input stands whose source is in this state
abbrev pub standing : SourceState → EventReader → Standing
standing source events = with_held (rows_at source events.rows) (option_map held_of events.held)

-- whether its input goes on
abbrev pub state_in : EventReader → State
state_in events = seen (option_map held_of events.held) events.rows.state

-- nothing was read yet: whatever source comes, what is given is read of it
abbrev pub IsFresh : Plan → EventReader → Type 0
IsFresh q events = (source : SourceState) → source.ended ≡ false → ReadsFrom q source (standing source events)

-- and whatever source comes, what was given before it was last asked is just what the bytes before its last piece give
abbrev pub IsUnasked : Plan → EventReader → Type 0
IsUnasked q events = (source : SourceState) → source.ended ≡ false → AsksFrom q source (standing source events)

-- the same where events may come out of order
abbrev pub IsFreshWithin : Plan → Lateness → EventReader → Type 0
IsFreshWithin q l events = (source : SourceState) → source.ended ≡ false → ReadsInOrder q l source (standing source events)

abbrev pub IsUnaskedWithin : Plan → Lateness → EventReader → Type 0
IsUnaskedWithin q l events = (source : SourceState) → source.ended ≡ false → AsksInOrder q l source (standing source events)

-- it goes on, has given all that is to be given so far, and asks for bytes
pub record IsWaiting (events : EventReader) : Type 0 where
  pub rows : IsAsking events.rows
  pub idle : IsIdle (option_map held_of events.held)

-- what an input answers at each call, where it gives no more
abbrev pub last_answer : State → Option Next
last_answer Going = None
last_answer (Stopped why) = Some (if is_end why then next.End else next.Stop why)
last_answer Broken = Some next.Memory
