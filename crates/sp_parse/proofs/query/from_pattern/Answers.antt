use Rattle.sp_parse.proofs.Reading.{exit}
use Rattle.sp_parse.proofs.Queries as f
use Rattle.sp_parse.proofs.query.from_pattern.Goals as goal

pub returns-in_err-elements : goal.returns-in_err-elements
returns-in_err-elements c = exit _ _ _ _ _ _ _ c.from_residual.ensures.1 (f.elements_stop c.args.room _ _ (c.in_err-elements.ensures c.args.room))

pub returns-in_err-defines : goal.returns-in_err-defines
returns-in_err-defines c = exit _ _ _ _ _ _ _ c.from_residual-in_err-defines.ensures.1 (f.defines_stop c.args.room _ _ _ _ (c.in_ok-elements.ensures c.args.room) c.in_err-defines.ensures)

pub returns-in_err-ending : goal.returns-in_err-ending
returns-in_err-ending c = exit _ _ _ _ _ _ _ c.from_residual-in_err-ending.ensures.1 (f.ending_stops c.args.room _ _ _ _ _ _ (c.in_ok-elements.ensures c.args.room) c.in_ok-defines.ensures c.in_err-ending.ensures)

pub returns : goal.returns
returns c = f.body_found c.args.room _ _ _ _ _ _ _ (c.in_ok-elements.ensures c.args.room) c.in_ok-defines.ensures c.in_ok-ending.ensures
