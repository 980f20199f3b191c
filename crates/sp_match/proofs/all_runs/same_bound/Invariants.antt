use Rattle.std.proofs.Common.{◌≡◌, take}
use Rattle.sp_match.proofs.all_runs.same_bound.Given as goal

abbrev pub invariant-loop-at : goal.invariant-loop-at
invariant-loop-at l = take l.at l.ones ≡ take l.at l.others
