use Rattle.std.proofs.Common.{◌≡◌, ◌+◌, ◌≤◌, ◌^◌, MatchOption, Option, ℕ, sym, subst, arith}
use Rattle.std.proofs.lemmas.Grind.{common_steps}
use Rattle.sp_emit.specs.Reading.{digits_value, with_digit}
use Rattle.sp_emit.proofs.Numbers.{first_digits, digit_more}
use Rattle.sp_emit.proofs.number.value.Goals as goal

past : (value digit taken all : ℕ) → 2 ^ 64 ≤ with_digit value digit → taken ≡ with_digit value digit → taken ≤ all → 2 ^ 64 ≤ all
past value digit taken all h e f = omega arith

pub returns-in_err-value : goal.returns-in_err-value
returns-in_err-value c =
    subst (λ (o : Option ℕ). MatchOption o (2 ^ 64 ≤ digits_value c.args.digits.now) (λ n. n ≡ digits_value c.args.digits.now)) (sym c.from_residual.ensures)
    (past _ _ _ _ c.in_err-value.ensures (digit_more c.args.digits.now c.loop-digit.digit-index c.loop-digit.value (omega arith) c.loop-digit.invariant) (first_digits c.args.digits.now (c.loop-digit.digit-index + 1)))

pub loop-digit-preserved : goal.loop-digit-preserved
loop-digit-preserved c = grind (arith, common_steps)

pub returns : goal.returns
returns c = grind (arith, common_steps)
