use Rattle.std.proofs.Common.{◌≡◌, take}
use Rattle.std.specs.List.{flat_map}
use Rattle.sp_io.specs.Outside.{Grew}
use Rattle.sp_listing.specs.Listing.{entry_text, seen}
use Rattle.sp_commands.proofs.listed.write_entries.Given as goal

abbrev pub invariant-loop-entry : goal.invariant-loop-entry
invariant-loop-entry g l = record {
  grew : Grew ((g.K.Sink.state l.initial.out).held) (flat_map (λ p. entry_text l.plan (seen p)) (take l.entry-index l.entries)) (g.K.Sink.state l.out).held;
  faults : (g.K.Sink.state l.out).faults ≡ (g.K.Sink.state l.initial.out).faults;
}
