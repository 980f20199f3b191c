use Rattle.sp_returns.proofs.Slots.{Through}
use Rattle.sp_returns.proofs.compiling.slots.Given as goal

abbrev pub invariant-loop-at : goal.invariant-loop-at
invariant-loop-at l = Through l.from l.returns l.columns l.at l.slots.items
