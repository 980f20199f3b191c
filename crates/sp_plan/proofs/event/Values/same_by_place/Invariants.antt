use Rattle.std.proofs.Common.{◌≡◌, take}
use Rattle.sp_plan.proofs.event.Values.same_by_place.Given as goal

abbrev pub invariant-loop-place : goal.invariant-loop-place
invariant-loop-place l = take l.place l.self ≡ take l.place l.other
