use Rattle.sp_intake.proofs.LooseGood.{slacked_good}
use Rattle.sp_intake.proofs.law.loose_is_good.Goals as goal

pub returns : goal.returns
returns c = λ q l bytes ended all compiled. slacked_good q l compiled.time bytes ended all
