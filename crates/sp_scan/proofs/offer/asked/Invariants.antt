use Rattle.sp_scan.proofs.MayHold.{NoOtherBelow}
use Rattle.sp_scan.proofs.offer.asked.Given as goal

abbrev pub invariant-loop-place : goal.invariant-loop-place
invariant-loop-place l = NoOtherBelow l.plan l.event l.mask l.place
