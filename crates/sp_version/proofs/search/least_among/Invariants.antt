use Rattle.std.proofs.Common.{length, ◌-◌}
use Rattle.sp_version.proofs.Searching.{Passed}
use Rattle.sp_version.proofs.search.least_among.Given as goal

abbrev pub invariant-loop-at : goal.invariant-loop-at
invariant-loop-at l = Passed l.list l.first l.skipped.list l.at

abbrev pub decreases-loop-at : goal.decreases-loop-at
decreases-loop-at l = length l.list - l.at
