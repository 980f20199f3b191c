use Rattle.sp_returns.proofs.OneReturns as l
use Rattle.sp_returns.proofs.law.one_list.Goals as goal

pub returns : goal.returns
returns c = l.one_list
