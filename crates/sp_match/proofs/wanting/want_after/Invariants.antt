use Rattle.std.proofs.Common.{◌≡◌, map, take, length}
use Rattle.sp_wants.specs.Stretches.{all_pairs}
use Rattle.sp_match.specs.inside.Kept.{kept}
use Rattle.sp_match.specs.inside.Wanted.{befores, wanted_all}
use Rattle.sp_match.proofs.wanting.want_after.Given as goal

-- the runs of the stretches in front of the place
abbrev pub invariant-loop-stretch : goal.invariant-loop-stretch
invariant-loop-stretch l = record {
  told : l.wanted ≡ wanted_all l.plan (befores (all_pairs (take l.stretch-index l.stretch-items))) (take l.at (map kept l.runs));
  place : l.at ≡ length (all_pairs (take l.stretch-index l.stretch-items));
}
