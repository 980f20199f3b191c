use Rattle.std.proofs.Common.{◌≡◌, ◌≤◌, map, length, take}
use Rattle.sp_match.specs.inside.Kept.{kept}
use Rattle.sp_match.specs.inside.Effects.{open_runs}
use Rattle.sp_match.proofs.starting.open_count.Given as goal

abbrev pub invariant-loop-run : goal.invariant-loop-run
invariant-loop-run l = record {
  count : l.count ≡ length (open_runs (map kept (take l.run-index l.runs)));
  within : l.count ≤ l.run-index;
}
