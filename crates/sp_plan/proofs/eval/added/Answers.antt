use Rattle.std.proofs.Common.{ℤ, ◌+◌, ◌*◌, ◌≤◌, ◌+ℤ◌, ◌*ℤ◌, unsigned_abs, FitsSigned, arith, refl}
use Rattle.std.specs.Int.{w128}
use Rattle.std.proofs.lemmas.Int.{ints, to_z-of_z, fits_signed_from_abs, unsigned_abs-mul}
use Rattle.sp_plan.specs.Bounds.{greatest}
use Rattle.sp_plan.proofs.eval.added.Goals as goal

fits : (z : ℤ) → unsigned_abs z ≤ greatest → FitsSigned w128 z
fits z h = fits_signed_from_abs w128 z (omega (arith, h))

size_of_sum : (a b : ℤ) → unsigned_abs (a +ℤ b) ≤ unsigned_abs a + unsigned_abs b
size_of_sum a b = omega (arith, ints)

size_of_added : (sum factor value : ℤ) → unsigned_abs (sum +ℤ factor *ℤ value) ≤ unsigned_abs sum + unsigned_abs factor * unsigned_abs value
size_of_added sum factor value = rw (← unsigned_abs-mul factor value) (size_of_sum sum (factor *ℤ value))

module _ (sum factor value : ℤ) (within : unsigned_abs sum + unsigned_abs factor * unsigned_abs value ≤ greatest) where
  fits_product : FitsSigned w128 (factor *ℤ value)
  fits_product = fits (factor *ℤ value) (rw (unsigned_abs-mul factor value) (omega (arith, within)))

  fits_added : FitsSigned w128 (sum +ℤ factor *ℤ value)
  fits_added = fits (sum +ℤ factor *ℤ value) (omega (arith, within, size_of_added sum factor value))

pub overflow_mul-result : goal.overflow_mul-result
overflow_mul-result c =
    rw (to_z-of_z w128 c.args.factor c.ranges.factor, to_z-of_z w128 c.args.value c.ranges.value) (fits_product c.args.sum c.args.factor c.args.value c.requires)

pub overflow_add-result : goal.overflow_add-result
overflow_add-result c =
    let product = fits_product c.args.sum c.args.factor c.args.value c.requires in
    rw (to_z-of_z w128 c.args.sum c.ranges.sum, to_z-of_z w128 c.args.factor c.ranges.factor, to_z-of_z w128 c.args.value c.ranges.value, to_z-of_z w128 (c.args.factor *ℤ c.args.value) product)
    (fits_added c.args.sum c.args.factor c.args.value c.requires)

pub returns-clause-value : goal.returns-clause-value
returns-clause-value c =
    let product = fits_product c.args.sum c.args.factor c.args.value c.requires in
    rw (
      to_z-of_z w128 c.args.sum c.ranges.sum,
      to_z-of_z w128 c.args.factor c.ranges.factor,
      to_z-of_z w128 c.args.value c.ranges.value,
      to_z-of_z w128 (c.args.factor *ℤ c.args.value) product,
      to_z-of_z w128 (c.args.sum +ℤ c.args.factor *ℤ c.args.value) (fits_added c.args.sum c.args.factor c.args.value c.requires),
    ) refl

pub returns-clause-small : goal.returns-clause-small
returns-clause-small c =
    let product = fits_product c.args.sum c.args.factor c.args.value c.requires in
    rw (
      to_z-of_z w128 c.args.sum c.ranges.sum,
      to_z-of_z w128 c.args.factor c.ranges.factor,
      to_z-of_z w128 c.args.value c.ranges.value,
      to_z-of_z w128 (c.args.factor *ℤ c.args.value) product,
      to_z-of_z w128 (c.args.sum +ℤ c.args.factor *ℤ c.args.value) (fits_added c.args.sum c.args.factor c.args.value c.requires),
    ) (size_of_added c.args.sum c.args.factor c.args.value)
