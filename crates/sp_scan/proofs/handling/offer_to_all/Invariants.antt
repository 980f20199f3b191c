use Rattle.std.proofs.Common.{◌-◌, length}
use Rattle.sp_scan.specs.inside.Offer.{IsShared, numbered}
use Rattle.sp_scan.proofs.RunsGoOn.{Round}
use Rattle.sp_scan.proofs.handling.offer_to_all.Given as goal

abbrev pub invariant-loop-at : goal.invariant-loop-at
invariant-loop-at l = Round l.offer.plan.now (numbered l.offer) l.fn.runs l.turns l.at × IsShared l.offer l.shared

abbrev pub decreases-loop-at : goal.decreases-loop-at
decreases-loop-at l = length l.turns.runs.items - l.at
