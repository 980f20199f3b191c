use Rattle.std.proofs.Common.{◌≡◌, map, take}
use Rattle.sp_match.specs.inside.Kept.{kept}
use Rattle.sp_match.proofs.all_runs.copies.Given as goal

abbrev pub invariant-loop-run : goal.invariant-loop-run
invariant-loop-run l = map kept l.copies.items ≡ map kept (take l.run-index l.runs)
