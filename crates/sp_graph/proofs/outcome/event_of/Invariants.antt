use Rattle.std.proofs.Common.{◌≡◌, false, map, string_bytes, take}
use Rattle.std.specs.List.{list_any}
use Rattle.sp_graph.specs.Derived.{given, is_past, renumbered}
use Rattle.sp_graph.specs.Tables.{IsTable}
use Rattle.sp_graph.proofs.outcome.event_of.Given as goal

abbrev pub invariant-loop-place : goal.invariant-loop-place
invariant-loop-place l = record {
  table : IsTable (map string_bytes l.layout.texts.now) l.table;
  within : list_any is_past (take l.place (given l.columns l.layout.returns.now l.bound)) ≡ false;
  values : (l.values, l.table.known) ≡ renumbered (map string_bytes l.layout.texts.now) l.initial.table.known (take l.place (given l.columns l.layout.returns.now l.bound));
}
