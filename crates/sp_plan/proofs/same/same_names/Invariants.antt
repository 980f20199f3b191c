use Rattle.std.proofs.Common.{◌≡◌, length, take}
use Rattle.std.specs.List.{AllZip}
use Rattle.sp_plan.specs.Same.{SameName}
use Rattle.sp_plan.proofs.same.same_names.Given as goal

abbrev pub invariant-loop-i : goal.invariant-loop-i
invariant-loop-i l = record {
  sizes : length l.xs ≡ length l.ys;
  alike : AllZip SameName (take l.i l.xs) (take l.i l.ys);
}
