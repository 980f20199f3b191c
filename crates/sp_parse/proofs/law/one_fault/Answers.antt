use Rattle.sp_parse.proofs.Alone.{same_fault, not_both}
use Rattle.sp_parse.proofs.law.one_fault.Goals as goal

pub returns : goal.returns
returns c = record { fault = same_fault; apart = not_both }
