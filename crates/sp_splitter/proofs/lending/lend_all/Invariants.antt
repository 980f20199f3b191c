use Rattle.std.proofs.Common.{◌≡◌, ℕ, ◌+◌, length, take}
use Rattle.sp_splitter.specs.Keeping.{Lends}
use Rattle.sp_splitter.specs.Splitting.{IsBelowKept}
use Rattle.sp_splitter.proofs.lending.lend_all.Given as goal

abbrev pub invariant-loop-id : goal.invariant-loop-id
invariant-loop-id g l = record {
  lends : Lends l.asking.shy l.asking.most (take l.id-index l.ids) l.initial.core l.core;
  kept : length l.kept.items ≡ length l.initial.kept.items + l.id-index;
  rising : (last : ℕ) → IsBelowKept last l.initial.kept.items l.initial.core.machine.next_ticket
      → IsBelowKept last l.kept.items l.core.machine.next_ticket;
}
