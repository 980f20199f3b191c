use Rattle.std.proofs.Common.{◌≡◌, ◌++◌, Some, map}
use Rattle.sp_returns.proofs.compiling.filled.Given as goal

abbrev pub invariant-loop-slot : goal.invariant-loop-slot
invariant-loop-slot l = map (λ expr. Some expr) l.exprs.items ++ l.slot-iterator.rest.items ≡ l.fn.slots.items
