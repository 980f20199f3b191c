use Rattle.std.proofs.Common.{◌≡◌, map, take}
use Rattle.sp_match.specs.inside.Kept.{kept}
use Rattle.sp_match.proofs.all_runs.copy_each.Given as goal

abbrev pub invariant-loop-at : goal.invariant-loop-at
invariant-loop-at l = map kept (take l.at l.runs) ≡ map kept (take l.at l.others)
