use Rattle.std.proofs.Common.{◌≡◌, length}
use Rattle.sp_seq.specs.Learned.{AllKnown}
use Rattle.sp_seq.proofs.learning.learn.Given as goal

abbrev pub invariant-loop-place : goal.invariant-loop-place
invariant-loop-place l = record {
  known : AllKnown l.plan l.events l.known.items;
  size : length l.known.items ≡ l.place;
}
