use Rattle.std.proofs.Common.{◌≡◌, ◌++◌}
use Rattle.sp_wants.specs.Stretches.{NoneEmpty, repeated}
use Rattle.sp_wants.proofs.wants.repeat.Given as goal

-- so often they were added
abbrev pub invariant-loop : goal.invariant-loop
invariant-loop l = record {
  added : l.stretches.items ≡ l.initial.stretches.items ++ repeated l.counter l.more;
  some : NoneEmpty l.stretches.items;
}
