use Rattle.std.proofs.Common.{◌≡◌, ℕ, ◌+◌, ◌-◌, length, false}
use Rattle.sp_splitter.specs.Splitting.{IsBelowKept}
use Rattle.sp_splitter.proofs.posting.post_kept.Given as goal

abbrev pub invariant-loop-kept : goal.invariant-loop-kept
invariant-loop-kept g l = record {
  room : l.by.room ≡ l.initial.by.room;
  unclosed : l.by.closed ≡ false;
  got : l.by.got ≡ l.initial.by.got;
  each : l.by.calls + length l.kept.items ≡ l.initial.by.calls + length l.initial.kept.items;
  below : (high : ℕ) → IsBelowKept l.initial.by.last l.initial.kept.items high → IsBelowKept l.by.last l.kept.items high;
}

abbrev pub decreases-loop-kept : goal.decreases-loop-kept
decreases-loop-kept g l = l.by.room - l.by.waiting
