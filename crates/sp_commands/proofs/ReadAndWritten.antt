-- A run of a plan that read first, and then wrote what it tells of what it had read.
use Rattle.std.proofs.Common.{◌≡◌, List, ℕ, Ok, sym, subst}
use Rattle.std.specs.Prelude.{Result}
use Rattle.std.specs.declared.alloc.AllocError.{AllocError}
use Rattle.sp_plan.specs.declared.event.Event.{Event}
use Rattle.sp_plan.specs.declared.plan.Plan.{Plan}
use Rattle.sp_intake.specs.Loose.{Lateness}
use Rattle.sp_ports.specs.declared.stop.Stop.{Stop}
use Rattle.sp_answer.specs.Outcome.{ending}
use Rattle.sp_answer.specs.Ran.{Outside, Ran}
use Rattle.sp_answer.specs.Written.{WritesText}
use Rattle.sp_answer.specs.declared.status.Status.{Status}
use Rattle.sp_answer.specs.declared.written.Written.{Written}
use Rattle.sp_commands.specs.Ends.{came_within, written_status}
use Rattle.sp_commands.specs.Given.{came_of, Brings}
use Rattle.sp_commands.specs.Run.{IsPlanTold}
use Rattle.sp_commands.specs.declared.given.Given.{Given}
use Rattle.sp_commands.proofs.Came.{IsTold, within_told}
use Rattle.sp_commands.proofs.Running.{IsReading, no_further_reading, reading_is, written}

module _ (text_for : Plan → List Event → Stop → List ℕ) (q : Plan) (l : Lateness) (old new : Outside) (given : Given) (brings : Brings q (came_within q l) old.input new.input (Ok given)) where
  told : IsTold new.input.ended (came_of given)
  told = subst (IsTold new.input.ended) (sym brings.is) (within_told q l brings.taken new.input.ended)

  pub ran_written : (result : Result Written AllocError) → WritesText (text_for q given.events.items given.stop) old.out new.out result
      → (s : Status) → s ≡ written_status given.status result → Ran (IsPlanTold text_for q l) old new (ending s)
  ran_written =
      written (IsReading (came_within q l) (text_for q)) old new brings.taken brings.gave (no_further_reading (came_within q l) (text_for q) brings.taken brings.no_further)
      (came_of given) (text_for q given.events.items given.stop) (reading_is (came_within q l) (text_for q) brings.taken new.input.ended (came_of given) brings.is) told brings.fault brings.told
