use Rattle.sp_match.proofs.ClosingEndsRuns.{closing_ends_runs}
use Rattle.sp_match.proofs.law.closing_ends_runs.Goals as goal

pub returns : goal.returns
returns c = closing_ends_runs
