use Rattle.std.proofs.Common.{◌≡◌, None, take}
use Rattle.std.specs.Prelude.{is_none}
use Rattle.std.specs.List.{find, filter_map}
use Rattle.sp_rows.specs.Rows.{place_of}
use Rattle.sp_rows.specs.Shapes.{fields_in}
use Rattle.sp_rows.proofs.header.read_header.Given as goal

abbrev pub invariant-loop-column : goal.invariant-loop-column
invariant-loop-column l = record {
  there : find (λ column. is_none (place_of (fields_in l.cells) column)) (take l.column-index l.columns) ≡ None;
  places : l.places.items ≡ filter_map (place_of (fields_in l.cells)) (take l.column-index l.columns);
}
