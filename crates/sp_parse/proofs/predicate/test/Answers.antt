use Rattle.sp_parse.proofs.Reading.{exit}
use Rattle.sp_parse.proofs.Atoms as f
use Rattle.sp_parse.proofs.predicate.test.Goals as goal

pub returns-in_err-first : goal.returns-in_err-first
returns-in_err-first c = exit _ _ _ _ _ _ _ c.from_residual.ensures.1 (f.test_first_stops c.args.room _ _ c.in_err-first.ensures)

pub returns-in_err-node : goal.returns-in_err-node
returns-in_err-node c = exit _ _ _ _ _ _ _ c.from_residual-in_err-node.ensures.1 (f.test_by_stops c.args.room _ _ _ _ c.in_ok-first.ensures c.in_err-node.ensures)

pub joined-requires : goal.joined-requires
joined-requires c = f.test_shortens c.args.room _ _ _ _ _ _ c.in_ok-first.ensures c.in_ok-node.ensures c.sum-2.ensures

pub returns : goal.returns
returns c = f.test_answers c.args.room _ _ _ _ _ _ _ c.in_ok-first.ensures c.in_ok-node.ensures c.sum-2.ensures c.joined.ensures
