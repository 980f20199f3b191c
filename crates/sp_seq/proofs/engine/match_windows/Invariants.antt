use Rattle.sp_seq.proofs.Sweeping.{Sweeping}
use Rattle.sp_seq.proofs.engine.match_windows.Given as goal

abbrev pub invariant-loop-count : goal.invariant-loop-count
invariant-loop-count l = Sweeping l.plan l.events l.count l.sweep
