use Rattle.sp_plan.proofs.KnownAnswers.{right}
use Rattle.sp_plan.proofs.law.known_is_right.Goals as goal

pub returns : goal.returns
returns c = right
