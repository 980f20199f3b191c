use Rattle.std.proofs.Common.{◌≡◌, [], take, length}
use Rattle.std.specs.List.{filter_map}
use Rattle.sp_rows.specs.Rows.{values_of, columns_at, fault_at}
use Rattle.sp_rows.specs.Shapes.{fields_in}
use Rattle.sp_rows.proofs.values.read_values.Given as goal

abbrev pub invariant-loop-column : goal.invariant-loop-column
invariant-loop-column l = record {
  values : (l.values, l.texts) ≡ values_of l.initial.texts (fields_in l.cells) (take l.column-index (columns_at l.layout.plan.now l.layout.places.now));
  whole : filter_map (fault_at (fields_in l.cells)) (take l.column-index (columns_at l.layout.plan.now l.layout.places.now)) ≡ [];
  kept : take (length l.initial.texts) l.texts ≡ l.initial.texts;
}
