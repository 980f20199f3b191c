use Rattle.sp_emit.proofs.Lines.{one_match}
use Rattle.sp_emit.proofs.law.one_match.Goals as goal

pub returns : goal.returns
returns c = one_match
