-- All that an input gives, in a list.
use Rattle.std.specs.Prelude.{◌≡◌, List, Some, Result, IfOk}
use Rattle.std.specs.declared.alloc.AllocError.{AllocError}
use Rattle.sp_plan.specs.declared.event.Event.{Event}
use Rattle.sp_intake.specs.declared.input.InputEvents.{InputEvents}
use Rattle.sp_intake.specs.Standing.{RowsAt, RowsGive, stop_in}

-- From one standing to another rows gave events, which are those of the answer; and where memory did not run out, it stopped.
pub record ReadsAll (old new : RowsAt) (result : Result InputEvents AllocError) : Type 0 where
  pub events : List Event
  pub gives : RowsGive old events new
  pub given : IfOk result (λ given. given.events.items ≡ events)
  pub stop : IfOk result (λ given. stop_in new.state ≡ Some given.stop)
