use Rattle.std.proofs.Common.{◌≡◌, take}
use Rattle.std.specs.List.{flat_map}
use Rattle.sp_core.specs.Homecoming.{completions, spent_run}
use Rattle.sp_core.proofs.homecoming.completed_of.Given as goal

abbrev pub invariant-loop-told : goal.invariant-loop-told
invariant-loop-told l = l.runs.items ≡ flat_map spent_run (completions (take l.told-index l.moves))
