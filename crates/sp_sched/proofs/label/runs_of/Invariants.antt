use Rattle.std.proofs.Common.{length}
use Rattle.sp_sched.proofs.Labels.{Going}
use Rattle.sp_sched.proofs.label.runs_of.Given as goal

abbrev pub invariant-loop-part : goal.invariant-loop-part
invariant-loop-part l = Going l.text l.runs.items (length l.yielded)
