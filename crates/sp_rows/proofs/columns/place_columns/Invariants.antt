use Rattle.std.proofs.Common.{◌≡◌, take, map}
use Rattle.sp_rows.specs.Rows.{columns_at}
use Rattle.sp_rows.specs.Shapes.{column_of}
use Rattle.sp_rows.proofs.columns.place_columns.Given as goal

abbrev pub invariant-loop-number : goal.invariant-loop-number
invariant-loop-number l = map column_of l.columns.items ≡ take l.number (columns_at l.plan l.places)
