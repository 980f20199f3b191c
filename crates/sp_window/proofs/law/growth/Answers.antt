use Rattle.sp_window.proofs.Growing.{grows}
use Rattle.sp_window.proofs.law.growth.Goals as goal

pub returns : goal.returns
returns c = grows
