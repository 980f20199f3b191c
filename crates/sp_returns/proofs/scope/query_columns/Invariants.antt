use Rattle.std.proofs.Common.{◌≡◌, map, take}
use Rattle.sp_returns.specs.Scopes.{query_column}
use Rattle.sp_returns.proofs.scope.query_columns.Given as goal

abbrev pub invariant-loop-column : goal.invariant-loop-column
invariant-loop-column l = l.made.items ≡ map query_column (take l.column-index l.columns)
