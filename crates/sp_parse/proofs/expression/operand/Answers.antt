use Rattle.std.proofs.Common.{sym, ◌∙◌}
use Rattle.sp_parse.proofs.Operands.{operand_named, operand_constant}
use Rattle.sp_parse.proofs.expression.operand.Goals as goal

pub returns-then-begins_name : goal.returns-then-begins_name
returns-then-begins_name c room = operand_named room _ _ _ (sym c.begins_name.ensures ∙ c.if-begins_name.true) (c.named.ensures room)

pub returns : goal.returns
returns c room = operand_constant room _ _ _ (sym c.begins_name.ensures ∙ c.if-begins_name.false) (c.constant.ensures room)
