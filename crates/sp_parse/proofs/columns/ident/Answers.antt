use Rattle.sp_parse.proofs.Reading.{exit}
use Rattle.sp_parse.proofs.EventClause as l
use Rattle.sp_parse.proofs.columns.ident.Goals as goal

pub returns-in_err-text : goal.returns-in_err-text
returns-in_err-text c room = exit _ _ room _ _ _ _ c.from_residual.ensures.1 (l.name_stops room _ _ c.in_err-text.ensures)

pub returns : goal.returns
returns c room = l.name_found room _ _ _ _ c.in_ok-text.ensures c.span_of-span.ensures
