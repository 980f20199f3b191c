use Rattle.sp_parse.proofs.Reading.{exit}
use Rattle.sp_parse.proofs.EndClauses as e
use Rattle.sp_parse.proofs.clauses.amount.Goals as goal

pub returns-in_err-count : goal.returns-in_err-count
returns-in_err-count c room = exit _ _ room _ _ _ _ c.from_residual.ensures.1 (e.amount_count_stops room _ _ c.in_err-count.ensures)

pub returns-in_err-word : goal.returns-in_err-word
returns-in_err-word c room = exit _ _ room _ _ _ _ c.from_residual-in_err-word.ensures.1 (e.amount_unit_stops room _ _ _ _ c.in_ok-count.ensures c.in_err-word.ensures)

pub returns : goal.returns
returns c room = e.amount_found room _ _ _ _ _ c.in_ok-count.ensures c.in_ok-word.ensures
