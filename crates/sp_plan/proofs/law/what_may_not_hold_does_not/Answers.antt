use Rattle.sp_plan.proofs.KnownAnswers.{may_not}
use Rattle.sp_plan.proofs.law.what_may_not_hold_does_not.Goals as goal

pub returns : goal.returns
returns c = may_not
