use Rattle.sp_parse.proofs.Reading.{exit}
use Rattle.sp_parse.proofs.Queries as f
use Rattle.sp_parse.proofs.query.query.Goals as goal

pub returns-in_err-columns : goal.returns-in_err-columns
returns-in_err-columns c = exit _ _ _ _ _ _ _ c.from_residual.ensures.1 (f.columns_stop c.args.room _ _ (c.in_err-columns.ensures c.args.room))

pub returns-in_err-time : goal.returns-in_err-time
returns-in_err-time c = exit _ _ _ _ _ _ _ c.from_residual-in_err-time.ensures.1 (f.time_stop c.args.room _ _ _ _ (c.in_ok-columns.ensures c.args.room) (c.in_err-time.ensures c.args.room))

pub returns-in_err-body : goal.returns-in_err-body
returns-in_err-body c = exit _ _ _ _ _ _ _ c.from_residual-in_err-body.ensures.1 (f.body_stops c.args.room _ _ _ _ _ _ (c.in_ok-columns.ensures c.args.room) (c.in_ok-time.ensures c.args.room) c.in_err-body.ensures)

pub returns : goal.returns
returns c = f.query_found c.args.room _ _ _ _ _ _ _ _ (c.in_ok-columns.ensures c.args.room) (c.in_ok-time.ensures c.args.room) c.in_ok-body.ensures
    (λ front e i. record { columns = c.in_ok-columns.columns; time = c.in_ok-time.time; elements = c.in_ok-body.body.elements; defines = c.listed.ensures i; length = c.in_ok-body.body.ending.length; opening = c.in_ok-body.body.ending.opening; select = c.in_ok-body.body.ending.select; consume = c.in_ok-body.body.ending.consume })
