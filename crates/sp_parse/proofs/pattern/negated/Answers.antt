use Rattle.sp_parse.proofs.Reading.{exit}
use Rattle.sp_parse.proofs.PatternClause as p
use Rattle.sp_parse.proofs.pattern.negated.Goals as goal

pub returns-in_err-rest : goal.returns-in_err-rest
returns-in_err-rest c room = exit _ _ room _ _ _ _ c.from_residual.ensures.1 (p.negated_mark_stops room _ _ c.in_err-rest.ensures)

pub returns-in_err-name : goal.returns-in_err-name
returns-in_err-name c room = exit _ _ room _ _ _ _ c.from_residual-in_err-name.ensures.1 (p.negated_name_stops room _ _ _ c.in_ok-rest.ensures (c.in_err-name.ensures room))

pub span_of-span-requires : goal.span_of-span-requires
span_of-span-requires c = p.negated_shorter 0 _ _ _ _ c.in_ok-rest.ensures (c.in_ok-name.ensures 0)

pub returns : goal.returns
returns c room = p.negated_found room _ _ _ _ _ c.in_ok-rest.ensures (c.in_ok-name.ensures room) c.span_of-span.ensures
