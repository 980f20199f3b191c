use Rattle.std.proofs.Common.{◌≡◌, ◌≤◌, take}
use Rattle.sp_plan.proofs.event.same_first.Given as goal

abbrev pub invariant-loop-i : goal.invariant-loop-i
invariant-loop-i l = record {
  within : l.i ≤ l.count;
  texts : take l.i l.texts ≡ take l.i l.signs;
  numbers : take l.i l.numbers ≡ take l.i l.others;
}
