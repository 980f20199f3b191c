use Rattle.std.proofs.Common.{◌≡◌, ℕ, ◌+◌, ◌*◌, ◌<◌, ◌≤◌, get_or}
use Rattle.sp_chance.specs.Matrices.{at}
use Rattle.sp_chance.proofs.matrix.add_row.Given as goal

abbrev pub invariant-loop-column : goal.invariant-loop-column
invariant-loop-column l = record {
  done : (j : ℕ) → j < l.column → get_or l.sums j 0 ≡ get_or l.initial.sums j 0 + l.times * at l.matrix l.row j;
  left : (j : ℕ) → l.column ≤ j → get_or l.sums j 0 ≡ get_or l.initial.sums j 0;
}
