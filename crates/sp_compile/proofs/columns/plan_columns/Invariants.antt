use Rattle.std.proofs.Common.{◌≡◌, map, take}
use Rattle.sp_compile.specs.Stands.{plan_column}
use Rattle.sp_compile.proofs.columns.plan_columns.Given as goal

abbrev pub invariant-loop-column : goal.invariant-loop-column
invariant-loop-column l = l.planned.items ≡ map plan_column (take l.column-index l.columns)
