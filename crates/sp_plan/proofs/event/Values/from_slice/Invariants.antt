use Rattle.std.proofs.Common.{◌≡◌, take}
use Rattle.sp_plan.proofs.event.Values.from_slice.Given as goal

abbrev pub invariant-loop-value : goal.invariant-loop-value
invariant-loop-value l = l.own ≡ take l.value-index l.values
