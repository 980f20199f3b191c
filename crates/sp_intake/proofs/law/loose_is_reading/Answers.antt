use Rattle.sp_intake.proofs.LooseReading.{is_reading}
use Rattle.sp_intake.proofs.law.loose_is_reading.Goals as goal

pub returns : goal.returns
returns c = λ q bytes ended compiled. is_reading q compiled.time bytes ended
