use Rattle.sp_plan.proofs.SamePlans.{holds_alike}
use Rattle.sp_plan.proofs.law.same_predicates_hold_alike.Goals as goal

pub returns : goal.returns
returns c = holds_alike
