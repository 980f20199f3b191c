use Rattle.sp_parse.proofs.Reading.{exit}
use Rattle.sp_parse.proofs.Operands.{dot_stops, name_answers}
use Rattle.sp_parse.proofs.expression.dotted.Goals as goal

pub returns-in_err-rest : goal.returns-in_err-rest
returns-in_err-rest c room = exit _ _ room _ _ _ _ c.from_residual.ensures.1 (dot_stops room _ _ c.in_err-rest.ensures)

pub returns : goal.returns
returns c room = name_answers room _ _ _ c.in_ok-rest.ensures c.name.ensures
