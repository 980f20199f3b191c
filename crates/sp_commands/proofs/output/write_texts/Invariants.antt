use Rattle.std.proofs.Common.{◌≡◌, take}
use Rattle.std.specs.Prelude.{string_bytes}
use Rattle.std.specs.List.{flat_map}
use Rattle.sp_io.specs.Outside.{Grew}
use Rattle.sp_commands.proofs.output.write_texts.Given as goal

abbrev pub invariant-loop-line : goal.invariant-loop-line
invariant-loop-line g l = record {
  grew : Grew ((g.K.Sink.state l.initial.out).held) (flat_map string_bytes (take l.line-index l.lines)) (g.K.Sink.state l.out).held;
  faults : (g.K.Sink.state l.out).faults ≡ (g.K.Sink.state l.initial.out).faults;
}
