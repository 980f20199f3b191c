use Rattle.std.proofs.Common.{◌≤◌}
use Rattle.sp_rows.specs.Progress.{read_of}
use Rattle.sp_calls.proofs.given.events_of_lines.Given as goal

abbrev pub invariant-loop-row : goal.invariant-loop-row
invariant-loop-row l = (read_of l.rows).read ≤ l.row-index
