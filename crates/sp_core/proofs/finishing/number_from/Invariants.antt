use Rattle.std.proofs.Common.{◌≡◌, ◌+◌, ◌++◌, take, drop}
use Rattle.sp_core.specs.Finishing.{numbered}
use Rattle.sp_core.proofs.finishing.number_from.Given as goal

abbrev pub invariant-loop-found : goal.invariant-loop-found
invariant-loop-found l = record {
  number : l.number ≡ l.first + l.found-index;
  items : l.found-items ≡ numbered l.first (take l.found-index l.initial.found-items) ++ drop l.found-index l.initial.found-items;
}
