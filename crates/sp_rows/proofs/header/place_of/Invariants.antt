use Rattle.std.proofs.Common.{◌≡◌, ℕ, ◌<◌, false, [], get_or}
use Rattle.std.specs.Str.{bytes_eq}
use Rattle.sp_rows.specs.Numbers.{trimmed}
use Rattle.sp_rows.specs.Shapes.{fields_in}
use Rattle.sp_rows.proofs.header.place_of.Given as goal

abbrev pub invariant-loop-place : goal.invariant-loop-place
invariant-loop-place l = (k : ℕ) → k < l.place → bytes_eq (trimmed (get_or (fields_in l.cells) k [])) l.column.name ≡ false
