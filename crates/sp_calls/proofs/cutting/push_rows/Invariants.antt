use Rattle.std.proofs.Common.{◌≡◌, ◌≤◌, ◌*◌, false}
use Rattle.sp_calls.proofs.cutting.push_rows.Given as goal

abbrev pub invariant-loop-piece : goal.invariant-loop-piece
invariant-loop-piece l = record { given : l.cutter.given ≤ 2 * l.piece-index; going : l.cutter.ended ≡ false }
