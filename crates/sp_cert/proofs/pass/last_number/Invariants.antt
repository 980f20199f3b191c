use Rattle.std.proofs.Common.{◌≡◌, ◌+◌, take}
use Rattle.sp_cert.specs.Checking.{GoOn}
use Rattle.sp_cert.proofs.pass.last_number.Given as goal

abbrev pub invariant-loop-one : goal.invariant-loop-one
invariant-loop-one l = record {
  on : GoOn l.number (take l.one-index l.matches);
  last_is : l.last ≡ l.number + l.one-index;
}
