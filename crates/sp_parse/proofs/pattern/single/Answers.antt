use Rattle.sp_parse.proofs.Reading.{exit}
use Rattle.sp_parse.proofs.PatternClause as p
use Rattle.sp_parse.proofs.pattern.single.Goals as goal

pub returns-in_err-name : goal.returns-in_err-name
returns-in_err-name c room = exit _ _ room _ _ _ _ c.from_residual.ensures.1 (p.single_stops room _ _ (c.in_err-name.ensures room))

pub span_of-span-requires : goal.span_of-span-requires
span_of-span-requires c = p.single_shorter 0 _ _ _ _ (c.in_ok-name.ensures 0) c.in-Some.ensures

pub returns-in-Some : goal.returns-in-Some
returns-in-Some c room = p.single_signed room _ _ _ _ _ (c.in_ok-name.ensures room) c.in-Some.ensures c.span_of-span.ensures

pub returns-in-None : goal.returns-in-None
returns-in-None c room = p.single_alone room _ _ _ (c.in_ok-name.ensures room) c.in-None.ensures
