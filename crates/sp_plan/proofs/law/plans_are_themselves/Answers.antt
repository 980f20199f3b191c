use Rattle.sp_plan.proofs.SamePlans.{own_plan}
use Rattle.sp_plan.proofs.law.plans_are_themselves.Goals as goal

pub returns : goal.returns
returns c = own_plan
