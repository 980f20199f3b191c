use Rattle.sp_spread.proofs.Growing.{journals_stay}
use Rattle.sp_spread.proofs.journals_stay_spread.Goals as goal

pub returns : goal.returns
returns c = journals_stay
