use Rattle.std.proofs.Common.{◌≡◌, ℕ, ◌<◌, ◌/◌, ◌%◌, get_or}
use Rattle.sp_chance.specs.Counted.{moved_by}
use Rattle.sp_chance.proofs.moves.write_transitions.Given as goal

abbrev pub invariant-loop-cell : goal.invariant-loop-cell
invariant-loop-cell l = (n : ℕ) → n < l.cell → get_or l.target n 0 ≡ moved_by l.counts (n / 33) (n % 33)
