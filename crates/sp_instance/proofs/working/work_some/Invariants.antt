use Rattle.std.proofs.Common.{◌≡◌, None}
use Rattle.sp_instance.specs.Doing.{WorkedSome}
use Rattle.sp_instance.specs.Seats.{Counts}
use Rattle.sp_instance.proofs.working.work_some.Given as goal

abbrev pub invariant-loop-done : goal.invariant-loop-done
invariant-loop-done g l = record {
  free : l.seat.holding ≡ None;
  done : WorkedSome (λ jobs pieces. Counts l.initial.seat jobs pieces l.seat) l.done;
}
