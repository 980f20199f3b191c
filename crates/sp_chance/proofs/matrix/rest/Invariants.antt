use Rattle.std.proofs.Common.{◌≡◌, ◌+◌}
use Rattle.sp_base.specs.Limits.{whole_share}
use Rattle.sp_chance.specs.Matrices.{total, at}
use Rattle.sp_chance.proofs.matrix.rest.Given as goal

abbrev pub invariant-loop-column : goal.invariant-loop-column
invariant-loop-column l = l.rest + total l.column (at l.matrix l.row) ≡ whole_share
