use Rattle.std.proofs.Common.{◌≡◌, ℕ, ◌<◌, ◌≤◌, Some, slice_get}
use Rattle.sp_match.specs.declared.known.Known.{Known}
use Rattle.sp_piece.specs.Keeping.{PassesBy}
use Rattle.sp_piece.proofs.reading.quiet_to.Given as goal

-- those before the place change nothing
abbrev pub invariant-loop-place : goal.invariant-loop-place
invariant-loop-place l = (i : ℕ) (k : Known) → l.from ≤ i → i < l.place → slice_get l.known i ≡ Some k → PassesBy l.led k
