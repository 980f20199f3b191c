use Rattle.std.proofs.Common.{◌≡◌, ◌-◌, ◌^◌, min, length, take}
use Rattle.sp_wants.specs.Stretches.{all_pairs}
use Rattle.sp_wants.proofs.wants.Wants.count.Given as goal

-- those of the stretches in front of the place
abbrev pub invariant-loop-stretch : goal.invariant-loop-stretch
invariant-loop-stretch l = l.count ≡ min (length (all_pairs (take l.stretch-index l.stretch-items))) (2 ^ 64 - 1)
