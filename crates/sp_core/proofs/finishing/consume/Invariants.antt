use Rattle.std.proofs.Common.{◌≡◌, ◌+◌, ◌≤◌, ◌||◌, ℕ, take}
use Rattle.std.specs.List.Sorted.{IsStrictlyIncreasing}
use Rattle.sp_base.specs.Numbers.{is_among}
use Rattle.sp_core.proofs.finishing.consume.Given as goal

abbrev pub invariant-loop-number : goal.invariant-loop-number
invariant-loop-number l = record {
  members : (i : ℕ) → is_among l.consumed.list i ≡ (is_among l.initial.consumed.list i || is_among (take l.number-index l.number-items) i);
  rising : IsStrictlyIncreasing l.consumed.list;
  spare : l.initial.consumed.spare ≤ l.consumed.spare + l.number-index;
}
