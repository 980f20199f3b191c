use Rattle.std.proofs.Common.{◌≡◌, take}
use Rattle.sp_io.specs.Outside.{Grew}
use Rattle.sp_plan.specs.Lines.{text}
use Rattle.sp_commands.proofs.output.write_lines.Given as goal

abbrev pub invariant-loop-found : goal.invariant-loop-found
invariant-loop-found g l = record {
  grew : Grew ((g.K.Sink.state l.initial.out).held) (text l.plan (take l.found-index l.matches)) (g.K.Sink.state l.out).held;
  faults : (g.K.Sink.state l.out).faults ≡ (g.K.Sink.state l.initial.out).faults;
}
