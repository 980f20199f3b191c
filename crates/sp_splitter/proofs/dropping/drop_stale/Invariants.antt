use Rattle.std.proofs.Common.{◌≡◌, ℕ, ◌-◌, ◌≤◌, ◌++◌, length, take, drop, filter, is_some}
use Rattle.sp_group.specs.Machine.{version_at}
use Rattle.sp_splitter.specs.Keeping.{Clears}
use Rattle.sp_splitter.specs.Splitting.{IsBelowKept}
use Rattle.sp_splitter.proofs.Clearing.{Ended}
use Rattle.sp_splitter.proofs.dropping.drop_stale.Given as goal

abbrev pub invariant-loop-job : goal.invariant-loop-job
invariant-loop-job g l = record {
  clears : Clears l.initial.core l.core;
  left : filter (λ job. is_some (version_at l.initial.core.machine.versions job.version)) l.initial.kept.items
      ≡ take l.place l.kept.items ++ filter (λ job. is_some (version_at l.initial.core.machine.versions job.version)) (drop l.place l.kept.items);
  ended : Ended l.initial.core l.core l.initial.kept.items (drop l.place l.kept.items);
  within : l.place ≤ length l.kept.items;
  rising : (last next : ℕ) → IsBelowKept last l.initial.kept.items next → IsBelowKept last l.kept.items next;
}

abbrev pub decreases-loop-job : goal.decreases-loop-job
decreases-loop-job g l = length l.kept.items - l.place
