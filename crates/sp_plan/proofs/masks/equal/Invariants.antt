use Rattle.std.proofs.Common.{◌≡◌, ℕ, pos, ◌+◌, ◌<◌, ◌≤◌, length, get_or}
use Rattle.std.specs.Ordering.{int_eq}
use Rattle.sp_plan.specs.Masks.{has}
use Rattle.sp_plan.proofs.masks.equal.Given as goal

abbrev pub decreases-loop-run : goal.decreases-loop-run
decreases-loop-run l = l.run

abbrev pub invariant-loop-run : goal.invariant-loop-run
invariant-loop-run l = record {
  within : l.run ≤ length l.values;
  seen : (k : ℕ) → l.run + k < length l.values → has l.mask k ≡ int_eq l.one (get_or l.values (l.run + k) (pos 0));
}
