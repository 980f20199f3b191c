use Rattle.sp_parse.proofs.Reading.{exit}
use Rattle.sp_parse.proofs.EndClauses as e
use Rattle.sp_parse.proofs.clauses.within.Goals as goal

pub returns-in_err-length : goal.returns-in_err-length
returns-in_err-length c room = exit _ _ room _ _ _ _ c.from_residual.ensures.1 (e.within_mark_stops room _ _ c.in_err-length.ensures)

pub returns-in_err-count : goal.returns-in_err-count
returns-in_err-count c room = exit _ _ room _ _ _ _ c.from_residual-in_err-count.ensures.1 (e.within_stops room _ _ _ c.in_ok-length.ensures (c.in_err-count.ensures room))

pub span_of-span-requires : goal.span_of-span-requires
span_of-span-requires c = e.amount_shorter 0 _ _ _ (c.in_ok-count.ensures 0)

pub returns : goal.returns
returns c room = e.within_found room _ _ _ _ _ c.in_ok-length.ensures (c.in_ok-count.ensures room) c.span_of-span.ensures
