use Rattle.std.proofs.Common.{take}
use Rattle.sp_plan.specs.Holding.{Between}
use Rattle.sp_plan.proofs.column.HeldColumn.of.Given as goal

abbrev pub invariant-loop-value : goal.invariant-loop-value
invariant-loop-value l = Between (take l.value-index l.value-items) l.least l.greatest
