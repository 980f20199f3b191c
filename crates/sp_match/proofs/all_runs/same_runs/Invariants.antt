use Rattle.std.proofs.Common.{◌≡◌, map, take}
use Rattle.sp_match.specs.inside.Kept.{kept, started}
use Rattle.sp_match.proofs.all_runs.same_runs.Given as goal

abbrev pub invariant-loop-at : goal.invariant-loop-at
invariant-loop-at l = map started (map kept (take l.at l.ones)) ≡ map started (map kept (take l.at l.others))
