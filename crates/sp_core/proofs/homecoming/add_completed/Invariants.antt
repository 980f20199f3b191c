use Rattle.std.proofs.Common.{◌≡◌, ◌++◌, take}
use Rattle.std.specs.List.{flat_map}
use Rattle.sp_core.specs.Homecoming.{completions_in, spent_run}
use Rattle.sp_core.proofs.homecoming.add_completed.Given as goal

abbrev pub invariant-loop-one : goal.invariant-loop-one
invariant-loop-one l = l.runs.items ≡ l.initial.runs.items ++ flat_map spent_run (completions_in (take l.one-index l.moves))
