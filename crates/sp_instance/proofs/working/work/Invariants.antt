use Rattle.std.proofs.Common.{◌≡◌, None}
use Rattle.sp_instance.specs.Doing.{Worked}
use Rattle.sp_instance.specs.Seats.{Counts}
use Rattle.sp_instance.proofs.working.work.Given as goal

abbrev pub invariant-loop : goal.invariant-loop
invariant-loop g l =
    (goal.iterator-loop g).can_next l.iterator' × (goal.iterator-loop g).is_finite l.iterator' × (l.seat.holding ≡ None)
    × Worked (λ jobs pieces. Counts l.initial.seat jobs pieces l.seat)
