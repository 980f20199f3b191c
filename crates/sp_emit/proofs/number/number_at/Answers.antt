use Rattle.std.proofs.Common.{sym, arith}
use Rattle.sp_emit.proofs.Answering.{none_answers}
use Rattle.sp_emit.proofs.Numbers.{none_unless_plain, none_past, number_there}
use Rattle.sp_emit.proofs.number.number_at.Goals as goal

pub returns-then-not-is_plain : goal.returns-then-not-is_plain
returns-then-not-is_plain c = none_unless_plain _ _ _ _ (omega arith) c.digits.ensures (sym c.if-not-is_plain.ensures)

pub returns-in_err-number : goal.returns-in_err-number
returns-in_err-number c = none_answers _ _ _ c.from_residual.ensures (none_past _ _ _ _ (omega arith) c.digits.ensures (omega (arith, c.in_err-number.ensures)))

pub returns-then-number-most : goal.returns-then-number-most
returns-then-number-most c = none_past _ _ _ _ (omega arith) c.digits.ensures (omega (arith, c.in_ok-number.ensures))

pub returns : goal.returns
returns c = number_there _ _ _ _ (omega arith) c.digits.ensures _ (sym c.if-not-is_plain.ensures) c.in_ok-number.ensures (omega arith)
