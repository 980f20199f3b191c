use Rattle.std.proofs.Common.{◌≡◌, length, take}
use Rattle.std.specs.List.{AllZip}
use Rattle.sp_plan.specs.Blocks.{seen}
use Rattle.sp_plan.proofs.bound.same_pairs.Given as goal

abbrev pub invariant-loop-i : goal.invariant-loop-i
invariant-loop-i l = record {
  sizes : length l.xs ≡ length l.ys;
  alike : AllZip (λ p q. seen p ≡ seen q) (take l.i l.xs) (take l.i l.ys);
}
