use Rattle.std.proofs.Common.{◌≡◌, length, take, vec_capacity, vec_len}
use Rattle.sp_plan.proofs.column.HeldColumn.copies.Given as goal

-- those before the place were copied, and there is room for the others
abbrev pub invariant-loop-column : goal.invariant-loop-column
invariant-loop-column l = (l.copies.items ≡ take l.column-index l.columns) × (vec_len l.copies ≡ l.column-index) × (vec_capacity l.copies ≡ length l.columns)
