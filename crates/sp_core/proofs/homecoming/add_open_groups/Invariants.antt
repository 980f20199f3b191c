use Rattle.std.proofs.Common.{take}
use Rattle.sp_core.specs.Homecoming.{HasOpenRuns}
use Rattle.sp_core.proofs.homecoming.add_open_groups.Given as goal

abbrev pub invariant-loop-run : goal.invariant-loop-run
invariant-loop-run l = HasOpenRuns l.initial.groups (take l.run-index l.runs) l.groups
