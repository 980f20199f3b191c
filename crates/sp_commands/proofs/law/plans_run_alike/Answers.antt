use Rattle.sp_commands.proofs.OneRun.{plans_run_alike}
use Rattle.sp_commands.proofs.law.plans_run_alike.Goals as goal

pub returns : goal.returns
returns c = plans_run_alike c.one_truth.ensures.truth
