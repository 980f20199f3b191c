use Rattle.std.proofs.Common.{◌-◌}
use Rattle.sp_chance.proofs.Ordered.{IsBetween}
use Rattle.sp_chance.proofs.chances.place.Given as goal

abbrev pub invariant-loop-low : goal.invariant-loop-low
invariant-loop-low l = IsBetween l.list l.version l.run l.low l.high

abbrev pub decreases-loop-low : goal.decreases-loop-low
decreases-loop-low l = l.high - l.low
