use Rattle.sp_parse.proofs.Reading.{exit}
use Rattle.sp_parse.proofs.Queries as f
use Rattle.sp_parse.proofs.query.from_within.Goals as goal

pub returns-in_err-length : goal.returns-in_err-length
returns-in_err-length c = exit _ _ _ _ _ _ _ c.from_residual.ensures.1 (f.within_stops c.args.room _ _ (c.in_err-length.ensures c.args.room))

pub returns-in_err-opening : goal.returns-in_err-opening
returns-in_err-opening c = exit _ _ _ _ _ _ _ c.from_residual-in_err-opening.ensures.1 (f.opening_stops c.args.room _ _ _ _ (c.in_ok-length.ensures c.args.room) c.in_err-opening.ensures)

pub returns-in_err-select : goal.returns-in_err-select
returns-in_err-select c = exit _ _ _ _ _ _ _ c.from_residual-in_err-select.ensures.1 (f.policy_stops c.args.room _ _ _ _ _ _ (c.in_ok-length.ensures c.args.room) c.in_ok-opening.ensures (c.in_err-select.ensures c.args.room))

pub returns-in_err-consume : goal.returns-in_err-consume
returns-in_err-consume c = exit _ _ _ _ _ _ _ c.from_residual-in_err-consume.ensures.1
    (f.consume_stops c.args.room _ _ _ _ _ _ _ _ (c.in_ok-length.ensures c.args.room) c.in_ok-opening.ensures (c.in_ok-select.ensures c.args.room) (c.in_err-consume.ensures c.args.room))

pub returns : goal.returns
returns c = f.ending_found c.args.room _ _ _ _ _ _ _ _ _ (c.in_ok-length.ensures c.args.room) c.in_ok-opening.ensures (c.in_ok-select.ensures c.args.room) (c.in_ok-consume.ensures c.args.room)
