use Rattle.std.proofs.Common.{◌≡◌, ℕ, ◌+◌, ◌*◌, ◌<◌, get_or}
use Rattle.sp_chance.specs.Matrices.{at}
use Rattle.sp_chance.proofs.powers.keep_column.Given as goal

abbrev pub invariant-loop-state : goal.invariant-loop-state
invariant-loop-state l = record {
  kept : (i : ℕ) → i < l.state → get_or l.columns (l.power * 33 + i) 0 ≡ at l.matrix i 0;
  before : (n : ℕ) → n < l.power * 33 → get_or l.columns n 0 ≡ get_or l.initial.columns n 0;
}
