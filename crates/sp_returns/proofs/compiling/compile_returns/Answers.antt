use Rattle.sp_returns.proofs.Returned.{answer_is, answer_suits, answer_refuses, found_is}
use Rattle.sp_returns.proofs.compiling.compile_returns.Goals as goal

pub returns-clause-returns : goal.returns-clause-returns
returns-clause-returns c = answer_is _ _ _ _ c.compiled.ensures

pub returns-clause-suit : goal.returns-clause-suit
returns-clause-suit c second is = answer_suits _ _ _ second is _ c.compiled.ensures

pub returns-clause-refused : goal.returns-clause-refused
returns-clause-refused c = answer_refuses _ _ _ _ c.compiled.ensures

pub returns-clause-only : goal.returns-clause-only
returns-clause-only c found d = found_is _ _ _ _ c.compiled.ensures found d
