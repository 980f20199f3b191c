use Rattle.std.proofs.Common.{[], ◌∙◌, ap}
use Rattle.sp_query.specs.Trees.{tree_at}
use Rattle.sp_parse.proofs.Reading.{exit}
use Rattle.sp_parse.proofs.Operands.{constant_stops, constant_found}
use Rattle.sp_parse.proofs.expression.constant.Goals as goal

pub returns-in_err-node : goal.returns-in_err-node
returns-in_err-node c room = exit _ _ room _ _ _ _ c.from_residual.ensures.1 (constant_stops room _ _ c.in_err-node.ensures)

pub returns : goal.returns
returns c room = constant_found room _ _ _ _ c.in_ok-node.ensures (λ front e. c.leaf.ensures ∙ ap (tree_at c.in_ok-node.node []) (c.span_of.ensures front e))
