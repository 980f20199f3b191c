use Rattle.std.proofs.Common.{◌≡◌, ◌++◌, map, take, drop}
use Rattle.sp_match.specs.inside.Kept.{before, kept}
use Rattle.sp_match.proofs.settling.undo.Given as goal

abbrev pub invariant-loop-run : goal.invariant-loop-run
invariant-loop-run l = map kept l.run-items ≡ map (before l.number) (take l.run-index (map kept l.initial.run-items)) ++ drop l.run-index (map kept l.initial.run-items)
