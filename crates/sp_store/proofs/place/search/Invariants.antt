use Rattle.std.proofs.Common.{◌-◌}
use Rattle.sp_store.proofs.Searched.{IsBetween}
use Rattle.sp_store.proofs.place.search.Given as goal

abbrev pub invariant-loop-low : goal.invariant-loop-low
invariant-loop-low l = IsBetween l.places l.id l.low l.high

abbrev pub decreases-loop-low : goal.decreases-loop-low
decreases-loop-low l = l.high - l.low
