use Rattle.sp_returns.proofs.OneReturns as l
use Rattle.sp_returns.proofs.law.returns_are_alike.Goals as goal

pub returns : goal.returns
returns c = l.alike
