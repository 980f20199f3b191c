use Rattle.std.proofs.Common.{length}
use Rattle.sp_sched.proofs.Reading.{Going}
use Rattle.sp_sched.proofs.read.read_schedule.Given as goal

abbrev pub invariant-lines : goal.invariant-lines
invariant-lines l = Going l.text l.rest l.steps.items l.before

abbrev pub decreases-lines : goal.decreases-lines
decreases-lines l = length l.rest
