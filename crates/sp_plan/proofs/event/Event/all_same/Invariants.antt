use Rattle.std.proofs.Common.{◌≡◌, take}
use Rattle.sp_plan.proofs.event.Event.all_same.Given as goal

abbrev pub invariant-loop-i : goal.invariant-loop-i
invariant-loop-i l = take l.i l.events ≡ take l.i l.others
