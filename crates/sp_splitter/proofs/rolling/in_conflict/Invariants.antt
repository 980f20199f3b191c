use Rattle.std.proofs.Common.{take}
use Rattle.std.specs.List.{All}
use Rattle.sp_splitter.specs.Rolling.{IsListed, IsOfWindow}
use Rattle.sp_splitter.proofs.rolling.in_conflict.Given as goal

-- those that were looked at are listed
abbrev pub invariant-loop-id : goal.invariant-loop-id
invariant-loop-id l = record {
  listed : All (IsListed l.core.plan l.core.machine l.found.items) (take l.id-index l.id-items);
  windows : All (IsOfWindow l.core.plan l.core.machine) l.found.items;
}
