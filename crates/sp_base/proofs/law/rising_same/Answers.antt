use Rattle.sp_base.proofs.Rising.{rising_same}
use Rattle.sp_base.proofs.law.rising_same.Goals as goal

pub returns : goal.returns
returns c = rising_same
