use Rattle.std.proofs.Common.{take}
use Rattle.sp_core.specs.Homecoming.{HasRuns}
use Rattle.sp_core.proofs.homecoming.add_groups.Given as goal

abbrev pub invariant-loop-run : goal.invariant-loop-run
invariant-loop-run l = HasRuns l.initial.groups (take l.run-index l.runs) l.groups
