use Rattle.sp_parse.proofs.Reading.{exit}
use Rattle.sp_parse.proofs.Defines as d
use Rattle.sp_parse.proofs.definitions.definition.Goals as goal

pub returns-in_err-name : goal.returns-in_err-name
returns-in_err-name c = exit _ _ _ _ _ _ _ c.from_residual.ensures.1 (d.name_stops c.args.room _ _ (c.in_err-name.ensures c.args.room))

pub returns-in_err-rest : goal.returns-in_err-rest
returns-in_err-rest c = exit _ _ _ _ _ _ _ c.from_residual-in_err-rest.ensures.1 (d.as_stops c.args.room _ _ _ _ (c.in_ok-name.ensures c.args.room) c.in_err-rest.ensures)

pub returns-in_err-tree : goal.returns-in_err-tree
returns-in_err-tree c = exit _ _ _ _ _ _ _ c.from_residual-in_err-tree.ensures.1 (d.pred_stops c.args.room _ _ _ _ _ (c.in_ok-name.ensures c.args.room) c.in_ok-rest.ensures c.in_err-tree.ensures)

pub returns : goal.returns
returns c = d.definition_found c.args.room _ _ _ _ _ _ (c.in_ok-name.ensures c.args.room) c.in_ok-rest.ensures c.in_ok-tree.ensures
