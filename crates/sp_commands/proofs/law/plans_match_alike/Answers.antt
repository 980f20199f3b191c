use Rattle.sp_commands.proofs.OneRun.{plans_match_alike}
use Rattle.sp_commands.proofs.law.plans_match_alike.Goals as goal

pub returns : goal.returns
returns c = plans_match_alike c.one_truth.ensures.truth
