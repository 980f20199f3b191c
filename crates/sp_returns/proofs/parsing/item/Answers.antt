use Rattle.sp_parse.proofs.Reading.{exit}
use Rattle.sp_returns.proofs.Phrases as p
use Rattle.sp_returns.proofs.parsing.item.Goals as goal

pub returns-in_err-tree : goal.returns-in_err-tree
returns-in_err-tree c = exit _ _ _ _ _ _ _ c.from_residual.ensures.1 (p.sum_stops c.args.room _ _ c.in_err-tree.ensures)

pub returns-in_err-name : goal.returns-in_err-name
returns-in_err-name c = exit _ _ _ _ _ _ _ c.from_residual-in_err-name.ensures.1 (p.target_stops c.args.room _ _ _ _ c.in_ok-tree.ensures (c.in_err-name.ensures c.args.room))

pub returns : goal.returns
returns c = p.item_found c.args.room _ _ _ _ _ c.in_ok-tree.ensures (c.in_ok-name.ensures c.args.room)
