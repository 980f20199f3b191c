use Rattle.std.proofs.Common.{◌≤◌, ◌-◌}
use Rattle.sp_piece.specs.Keeping.{IsKept, going}
use Rattle.sp_piece.proofs.reading.read_to.Given as goal

abbrev pub invariant-loop-read : goal.invariant-loop-read
invariant-loop-read l = IsKept (going l.job l.read) l.matcher l.telling.entries × (l.initial.read ≤ l.read) × (l.read ≤ l.end)

abbrev pub decreases-loop-read : goal.decreases-loop-read
decreases-loop-read l = l.end - l.read
