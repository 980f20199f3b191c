use Rattle.std.proofs.Common.{◌≡◌, None, map, string_bytes, take}
use Rattle.sp_graph.specs.Derived.{Deriving, derived, nothing}
use Rattle.sp_graph.specs.Tables.{IsTable}
use Rattle.sp_graph.proofs.outcome.take_matches.Given as goal

abbrev pub invariant-loop-found : goal.invariant-loop-found
invariant-loop-found l = record {
  table : IsTable (map string_bytes l.layout.texts.now) l.carried.table;
  none : l.carried.none ≡ nothing;
  derived : ◌≡◌ {A = Deriving} (record { events = l.own.items; texts = l.carried.table.known; limit = None }) (derived l.layout.returns.now l.layout.events.now (map string_bytes l.layout.texts.now) l.layout.second.now (take l.found-index l.matches));
}
