use Rattle.sp_returns.proofs.Whole as f
use Rattle.sp_returns.proofs.parsing.parse_tokens.Goals as goal

pub returns-clause-found : goal.returns-clause-found
returns-clause-found c = f.ends_found _ _ c.items.ensures _ c.ended.ensures

pub returns-clause-all : goal.returns-clause-all
returns-clause-all c returns d = f.ends_all _ _ c.items.ensures _ c.ended.ensures returns d

pub returns-clause-halts : goal.returns-clause-halts
returns-clause-halts c = f.ends_halts _ _ c.items.ensures _ c.ended.ensures
