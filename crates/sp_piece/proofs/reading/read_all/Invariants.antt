use Rattle.std.proofs.Common.{ℕ, ◌<◌, ◌≤◌, get_or}
use Rattle.sp_piece.specs.Keeping.{IsKept, IsPast, going}
use Rattle.sp_piece.proofs.reading.read_all.Given as goal

-- the events of the numbers before the place are past
abbrev pub invariant-loop-number : goal.invariant-loop-number
invariant-loop-number l =
    IsKept (going l.job l.read) l.matcher l.telling.entries × (l.initial.read ≤ l.read) × ((j : ℕ) → j < l.number-index → IsPast l.job l.read (get_or l.snapshot j 0))
