use Rattle.std.proofs.Common.{◌≡◌, ℕ, ◌++◌}
use Rattle.sp_spread.specs.Calm.{AreCalm}
use Rattle.sp_splitter.specs.Finishing.{Finishes}
use Rattle.sp_splitter.specs.Stages.{Goes, NoneRead, Went, matches_of}
use Rattle.sp_splitter.proofs.finishing.finish_all.Given as goal

-- what was emitted so far
abbrev pub invariant-loop : goal.invariant-loop
invariant-loop g l = record {
  went : (n batch : ℕ) → Went n batch l.fn.core l.core;
  goes : (n : ℕ) → Goes n l.fn.core l.core;
  emitted : l.core.machine.emitted ≡ l.fn.core.machine.emitted ++ matches_of l.all.items;
  read : NoneRead l.fn.core l.core;
  calm : AreCalm l.core.plan l.core.machine;
  finishes : Finishes l.fn.core l.core l.all.items;
}
