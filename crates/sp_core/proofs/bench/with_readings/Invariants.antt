use Rattle.sp_core.proofs.LinesRead.{AreWritten}
use Rattle.sp_core.proofs.bench.with_readings.Given as goal

abbrev pub invariant-loop-i : goal.invariant-loop-i
invariant-loop-i l = AreWritten l.i l.lines.items l.pieces
