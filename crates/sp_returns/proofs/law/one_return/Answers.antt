use Rattle.sp_returns.proofs.OneReturns as l
use Rattle.sp_returns.proofs.law.one_return.Goals as goal

pub returns : goal.returns
returns c = l.one_return
