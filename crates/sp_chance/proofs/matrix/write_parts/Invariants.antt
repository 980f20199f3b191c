use Rattle.std.proofs.Common.{◌≡◌, ℕ, ◌*◌, ◌/◌, ◌<◌, get_or}
use Rattle.sp_base.specs.Limits.{whole_share}
use Rattle.sp_chance.specs.Matrices.{at}
use Rattle.sp_chance.proofs.matrix.write_parts.Given as goal

abbrev pub invariant-loop-column : goal.invariant-loop-column
invariant-loop-column l = record {
  here : (j : ℕ) → j < l.column → at l.target l.row j ≡ get_or l.sums j 0 / whole_share;
  before : (n : ℕ) → n < l.row * 33 → get_or l.target n 0 ≡ get_or l.initial.target n 0;
}
