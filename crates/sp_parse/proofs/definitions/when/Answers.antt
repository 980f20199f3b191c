use Rattle.sp_parse.proofs.Reading.{exit}
use Rattle.sp_parse.proofs.Defines as d
use Rattle.sp_parse.proofs.definitions.when.Goals as goal

pub returns-in_err-rest : goal.returns-in_err-rest
returns-in_err-rest c = exit _ _ _ _ _ _ _ c.from_residual.ensures.1 (d.when_mark_stops c.args.room _ _ c.in_err-rest.ensures)

pub returns-in_err-tree : goal.returns-in_err-tree
returns-in_err-tree c = exit _ _ _ _ _ _ _ c.from_residual-in_err-tree.ensures.1 (d.when_stops c.args.room _ _ _ c.in_ok-rest.ensures c.in_err-tree.ensures)

pub returns : goal.returns
returns c = d.when_found c.args.room _ _ _ _ c.in_ok-rest.ensures c.in_ok-tree.ensures
