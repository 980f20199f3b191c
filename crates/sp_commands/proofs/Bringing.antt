-- A reading whose events may be late, as what a command is given.
use Rattle.std.proofs.Common.{◌≡◌, ℕ, true, List, Ok, Err}
use Rattle.std.specs.Prelude.{Result, IsErr}
use Rattle.std.specs.declared.alloc.AllocError.{AllocError}
use Rattle.std.specs.List.{All}
use Rattle.std.proofs.lemmas.List.Elements.{All-weaker}
use Rattle.sp_io.specs.Outside.{SourceState, Gave}
use Rattle.sp_plan.specs.Events.{fits, AllFit}
use Rattle.sp_plan.specs.declared.event.Event.{Event}
use Rattle.sp_plan.specs.declared.plan.Plan.{Plan}
use Rattle.sp_intake.specs.Intake.{StopsInPiece}
use Rattle.sp_intake.specs.Loose.{Lateness, kept}
use Rattle.sp_intake.proofs.Suiting.{time_between}
use Rattle.sp_commands.specs.Ends.{CameFrom, came_within}
use Rattle.sp_commands.specs.Given.{StopsInTime, Brings}
use Rattle.sp_commands.specs.declared.given.Given.{Given}
use Rattle.sp_commands.proofs.Came.{within_open}
use Rattle.sp_commands.proofs.Holding.{IsTimed}

-- input that had not stopped the reading before the last piece is that of one that may go on
pub within_in_time : (q : Plan) (l : Lateness) (taken : List ℕ) → StopsInPiece (kept q l) taken → StopsInTime (came_within q l) taken
within_in_time q l taken no_further = record {
  front = no_further.front;
  piece = no_further.piece;
  are = no_further.are;
  short = no_further.short;
  goes_on = within_open q l no_further.front no_further.goes_on;
}

-- the times of events that fit a plan are 0 to 10 to the power of 15
pub all_timed : (q : Plan) (events : List Event) → AllFit q events → All IsTimed events
all_timed q events fit = All-weaker (λ e. fits q e ≡ true) IsTimed (λ e is. time_between q e is) events fit

-- memory ran out
pub lost : (q : Plan) (way : CameFrom) (old new : SourceState) (result : Result Given AllocError) → IsErr result → (taken : List ℕ) → Gave old.left taken new.left → StopsInTime way taken → Brings q way old new result
lost q way old new (Ok given) failed taken gave in_time = absurd (cc failed)
lost q way old new (Err e) failed taken gave in_time = record { taken = taken; gave = gave; no_further = in_time; is = tt; good = tt; fault = tt; told = tt }
