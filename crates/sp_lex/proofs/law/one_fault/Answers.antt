use Rattle.sp_lex.proofs.Alone.{one_tokens, same_fault, not_both}
use Rattle.sp_lex.proofs.law.one_fault.Goals as goal

pub returns : goal.returns
returns c = record { tokens = one_tokens 0; fault = same_fault; apart = not_both }
