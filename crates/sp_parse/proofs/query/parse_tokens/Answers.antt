use Rattle.sp_parse.proofs.Queries as f
use Rattle.sp_parse.proofs.query.parse_tokens.Goals as goal

pub returns-clause-found : goal.returns-clause-found
returns-clause-found c = f.ends_found _ _ c.query.ensures _ c.ended.ensures

pub returns-clause-only : goal.returns-clause-only
returns-clause-only c = f.ends_only _ _ c.query.ensures _ c.ended.ensures

pub returns-clause-all : goal.returns-clause-all
returns-clause-all c query d = f.ends_all _ _ c.query.ensures _ c.ended.ensures query d

pub returns-clause-halts : goal.returns-clause-halts
returns-clause-halts c = f.ends_halts _ _ c.query.ensures _ c.ended.ensures
