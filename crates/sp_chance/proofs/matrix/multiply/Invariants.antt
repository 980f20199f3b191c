use Rattle.std.proofs.Common.{◌≡◌, ℕ, ◌<◌}
use Rattle.sp_chance.specs.Matrices.{at, joined}
use Rattle.sp_chance.proofs.matrix.multiply.Given as goal

abbrev pub invariant-loop-row : goal.invariant-loop-row
invariant-loop-row l = (i j : ℕ) → i < l.row → j < 33 → at l.target i j ≡ joined l.left l.right i j
