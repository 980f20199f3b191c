use Rattle.std.proofs.Common.{arith, rules}
use Rattle.sp_plan.proofs.Sizes.{in_add, in_sub, in_mul, in_raise, in_minus}
use Rattle.sp_plan.proofs.Spines.{start, on_add, on_sub, on_mul, on_raise, on_minus}
use Rattle.sp_plan.proofs.eval.+value.Goals as goal

pub chain-loop-rest-init : goal.chain-loop-rest-init
chain-loop-rest-init t c = record { spine = start c.args.expr.now c.args.event.now c.args.bound.now c.requires.within; shallow = omega arith }

pub chain-loop-rest-preserved-in-Add : goal.chain-loop-rest-preserved-in-Add
chain-loop-rest-preserved-in-Add t c = record {
  spine = rw c.deref-rest-in-Add.ensures (on_add _ _ _ _ _ _ _ _ _ _ _ (rw c.in-Add.is at c.loop-rest.invariant.spine) (rw c.deref.ensures at c.value.ensures.value)
      (rw c.deref.ensures at c.value.ensures.small) (search rules) (search rules));
  shallow = let before = (rw c.in-Add.is at c.loop-rest.invariant.shallow) in let falls = in_add c.in-Add.left c.in-Add.right in rw c.deref-rest-in-Add.ensures (omega arith);
}

pub chain-loop-rest-preserved-in-Sub : goal.chain-loop-rest-preserved-in-Sub
chain-loop-rest-preserved-in-Sub t c = record {
  spine = rw c.deref-rest-in-Sub.ensures (on_sub _ _ _ _ _ _ _ _ _ _ _ (rw c.in-Sub.is at c.loop-rest.invariant.spine) (rw c.deref-in-Sub.ensures at c.value-in-Sub.ensures.value)
      (rw c.deref-in-Sub.ensures at c.value-in-Sub.ensures.small) (search rules) (search rules));
  shallow = let before = (rw c.in-Sub.is at c.loop-rest.invariant.shallow) in let falls = in_sub c.in-Sub.left c.in-Sub.right in rw c.deref-rest-in-Sub.ensures (omega arith);
}

pub chain-loop-rest-preserved : goal.chain-loop-rest-preserved
chain-loop-rest-preserved t c = record {
  spine = rw c.deref-rest-in-Mul.ensures (on_mul _ _ _ _ _ _ _ _ _ _ _ (rw c.in-Mul.is at c.loop-rest.invariant.spine) (rw c.deref-in-Mul.ensures at c.value-in-Mul.ensures.value)
      (rw c.deref-in-Mul.ensures at c.value-in-Mul.ensures.small) (search rules));
  shallow = let before = (rw c.in-Mul.is at c.loop-rest.invariant.shallow) in let falls = in_mul c.in-Mul.left c.in-Mul.right in rw c.deref-rest-in-Mul.ensures (omega arith);
}

pub chain-loop-rest-preserved-in-Raise : goal.chain-loop-rest-preserved-in-Raise
chain-loop-rest-preserved-in-Raise t c = record {
  spine = rw c.deref-rest.ensures (on_raise _ _ _ _ _ _ _ _ _ _ (rw c.in-Raise.is at c.loop-rest.invariant.spine) c.power_of_ten.ensures (search rules));
  shallow = let before = (rw c.in-Raise.is at c.loop-rest.invariant.shallow) in let falls = in_raise c.in-Raise.by c.in-Raise.inner in rw c.deref-rest.ensures (omega arith);
}

pub chain-loop-rest-preserved-in-Minus : goal.chain-loop-rest-preserved-in-Minus
chain-loop-rest-preserved-in-Minus t c = record {
  spine = rw c.deref-rest-in-Minus.ensures (on_minus _ _ _ _ _ _ _ _ (rw c.in-Minus.is at c.loop-rest.invariant.spine) (search rules));
  shallow = let before = (rw c.in-Minus.is at c.loop-rest.invariant.shallow) in let falls = in_minus c.in-Minus.inner in rw c.deref-rest-in-Minus.ensures (omega arith);
}
