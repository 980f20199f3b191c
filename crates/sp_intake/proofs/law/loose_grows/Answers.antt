use Rattle.sp_intake.proofs.LooseGrowing.{loose_grows as grows_to}
use Rattle.sp_intake.proofs.law.loose_grows.Goals as goal

pub returns : goal.returns
returns c = λ q l front more ended all compiled. grows_to q l compiled.time front more ended all
