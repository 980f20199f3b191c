use Rattle.sp_compile.proofs.Expressions.{whole_is, decimal_is, literal_is, own_is, earlier_is}
use Rattle.sp_compile.proofs.expression.operand.Goals as goal

pub returns-in-Whole : goal.returns-in-Whole
returns-in-Whole c = whole_is _ _ c.args.tree.now c.in-Whole.units c.number.result c.in-Whole.is c.number.ensures

pub returns-in-Decimal : goal.returns-in-Decimal
returns-in-Decimal c = decimal_is _ _ c.args.tree.now c.in-Decimal.units c.in-Decimal.scale c.number-in-Decimal.result c.in-Decimal.is c.number-in-Decimal.ensures

pub returns-in-Literal : goal.returns-in-Literal
returns-in-Literal c = literal_is _ _ c.args.tree.now c.in-Literal.text c.literal.result c.in-Literal.is c.literal.ensures

pub returns-in-Own : goal.returns-in-Own
returns-in-Own c = own_is _ _ c.args.tree.now c.in-Own.text c.own.result c.in-Own.is c.own.ensures

pub returns-in-Earlier : goal.returns-in-Earlier
returns-in-Earlier c = earlier_is _ _ c.args.tree.now c.in-Earlier.name c.in-Earlier.text c.earlier.result c.in-Earlier.is c.earlier.ensures
