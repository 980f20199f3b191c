use Rattle.std.proofs.Common.{arith}
use Rattle.sp_rows.proofs.FewDigits.{few_fits, one_more_fits}
use Rattle.sp_rows.proofs.numbers.few_digits.Goals as goal

pub overflow_mul-value : goal.overflow_mul-value
overflow_mul-value c =
    let small = one_more_fits c.loop-digit.value c.loop-digit.digit-index c.loop-digit.invariant.below (omega arith) in
    omega arith

pub overflow_add-value : goal.overflow_add-value
overflow_add-value c =
    let small = one_more_fits c.loop-digit.value c.loop-digit.digit-index c.loop-digit.invariant.below (omega arith) in
    omega arith

pub returns-clause-below : goal.returns-clause-below
returns-clause-below c = few_fits c.loop-digit.value c.loop-digit.digit-index c.loop-digit.invariant.below (omega arith)
