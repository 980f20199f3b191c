use Rattle.sp_load.proofs.OneTextLaws.{one_text}
use Rattle.sp_load.proofs.law.one_text.Goals as goal

pub returns : goal.returns
returns c = one_text
