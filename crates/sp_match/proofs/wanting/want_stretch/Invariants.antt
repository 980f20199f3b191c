use Rattle.std.proofs.Common.{◌≡◌, ◌≤◌, ◌++◌, map, take, replicate}
use Rattle.std.specs.List.{flat_map}
use Rattle.sp_match.specs.inside.Kept.{kept}
use Rattle.sp_match.specs.inside.Wanted.{wanted_by}
use Rattle.sp_match.proofs.wanting.want_stretch.Given as goal

-- what was added, with the stretch at hand behind it
abbrev pub invariant-loop-run : goal.invariant-loop-run
invariant-loop-run l = record {
  added : l.wanted ++ replicate l.times (l.before, l.after) ≡ l.initial.wanted ++ flat_map (λ k. wanted_by l.plan (l.before, k)) (map kept (take l.run-index l.runs));
  few : l.times ≤ l.run-index;
}
