use Rattle.std.proofs.Common.{drop}
use Rattle.sp_splitter.specs.Rolling.{AreListed, Quiet, Rolls}
use Rattle.sp_splitter.proofs.rolling.roll_listed.Given as goal

-- what is in conflict is still to come
abbrev pub invariant-loop-entry : goal.invariant-loop-entry
invariant-loop-entry g l = record {
  quiet : Quiet l.fn.core l.core;
  listed : AreListed l.core.plan l.core.machine (drop l.entry-index l.found);
  rolls : Rolls l.fn.core l.core;
}
