use Rattle.sp_match.proofs.NumbersStayBelow.{numbers_stay_below}
use Rattle.sp_match.proofs.law.numbers_stay_below.Goals as goal

pub returns : goal.returns
returns c = numbers_stay_below
