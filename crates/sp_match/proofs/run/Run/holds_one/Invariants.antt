use Rattle.std.proofs.Common.{◌≡◌, ◌≤◌, false, length, drop}
use Rattle.std.specs.List.{list_any}
use Rattle.sp_match.proofs.NumbersAreAbove.{Holds}
use Rattle.sp_match.proofs.run.Run.holds_one.Given as goal

abbrev pub invariant-loop-left : goal.invariant-loop-left
invariant-loop-left l = record {
  within : l.left ≤ length l.self.bound.items;
  none : list_any (Holds l.numbers.list) (drop l.left l.self.bound.items) ≡ false;
}

abbrev pub decreases-loop-left : goal.decreases-loop-left
decreases-loop-left l = l.left
