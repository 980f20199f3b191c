use Rattle.std.proofs.Common.{◌≡◌, ◌≤◌, length, take}
use Rattle.std.specs.Vec.{vec_capacity}
use Rattle.sp_plan.proofs.pairs.share_pairs.Given as goal

abbrev pub invariant-loop-pair : goal.invariant-loop-pair
invariant-loop-pair l = record {
  items : l.shared.items ≡ take l.pair-index l.pairs;
  room : length l.pairs ≤ vec_capacity l.shared;
}
