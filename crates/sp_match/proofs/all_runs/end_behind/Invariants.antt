use Rattle.std.proofs.Common.{vec_len}
use Rattle.sp_match.proofs.all_runs.end_behind.Given as goal

abbrev pub decreases-loop-runs : goal.decreases-loop-runs
decreases-loop-runs l = vec_len l.runs
