use Rattle.sp_parse.proofs.Reading.{exit}
use Rattle.sp_parse.proofs.Defines as d
use Rattle.sp_parse.proofs.definitions.every.Goals as goal

pub returns-in_err-rest : goal.returns-in_err-rest
returns-in_err-rest c room = exit _ _ room _ _ _ _ c.from_residual.ensures.1 (d.every_mark_stops room _ _ c.in_err-rest.ensures)

pub returns-in_err-number : goal.returns-in_err-number
returns-in_err-number c room = exit _ _ room _ _ _ _ c.from_residual-in_err-number.ensures.1 (d.every_stops room _ _ _ c.in_ok-rest.ensures (c.in_err-number.ensures room))

pub span_of-span-requires : goal.span_of-span-requires
span_of-span-requires c = d.every_shorter 0 _ _ _ _ c.in_ok-rest.ensures (c.in_ok-number.ensures 0)

pub returns : goal.returns
returns c room = d.every_found room _ _ _ _ _ c.in_ok-rest.ensures (c.in_ok-number.ensures room) c.span_of-span.ensures
