use Rattle.std.proofs.Common.{◌≡◌, ℕ, ◌*◌, ◌<◌, get_or}
use Rattle.sp_chance.specs.Matrices.{total, at}
use Rattle.sp_chance.proofs.matrix.sum_up.Given as goal

abbrev pub invariant-loop-between : goal.invariant-loop-between
invariant-loop-between l = (j : ℕ) → j < 33 → get_or l.sums j 0 ≡ total l.between (λ k. at l.left l.row k * at l.right k j)
