use Rattle.sp_parse.proofs.Reading.{exit}
use Rattle.sp_parse.proofs.EndClauses as e
use Rattle.sp_parse.proofs.clauses.consumed.Goals as goal

pub returns-in_err-rest : goal.returns-in_err-rest
returns-in_err-rest c room = exit _ _ room _ _ _ _ c.from_residual.ensures.1 (e.consumed_left_stops room _ _ c.in_err-rest.ensures)

pub returns : goal.returns
returns c room = e.consumed_closes room _ _ _ _ c.in_ok-rest.ensures (c.name_list.ensures room) c.closed.ensures
