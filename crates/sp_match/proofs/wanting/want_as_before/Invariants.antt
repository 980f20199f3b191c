use Rattle.std.proofs.Common.{◌≡◌, ◌≤◌, ◌++◌, map, take, replicate}
use Rattle.sp_match.specs.inside.Kept.{kept}
use Rattle.sp_match.specs.inside.Wanted.{all_as_before}
use Rattle.sp_match.proofs.wanting.want_as_before.Given as goal

-- what was added, with the stretch at hand behind it
abbrev pub invariant-loop-run : goal.invariant-loop-run
invariant-loop-run l = record {
  added : l.wanted ++ replicate l.times (l.same, l.same) ≡ l.initial.wanted ++ all_as_before l.plan (map kept (take l.run-index l.runs));
  few : l.times ≤ l.run-index;
}
