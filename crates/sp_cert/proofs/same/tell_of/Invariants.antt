use Rattle.std.proofs.Common.{take}
use Rattle.sp_cert.specs.Checking.{TellOf}
use Rattle.sp_cert.proofs.same.tell_of.Given as goal

abbrev pub invariant-loop-place : goal.invariant-loop-place
invariant-loop-place l = TellOf l.window (take l.place l.matches) (take l.place l.runs)
