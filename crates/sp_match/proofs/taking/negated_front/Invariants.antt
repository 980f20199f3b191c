use Rattle.std.proofs.Common.{◌≡◌, ◌+◌, drop, length}
use Rattle.sp_plan.specs.Runs.{leading}
use Rattle.sp_match.proofs.taking.negated_front.Given as goal

abbrev pub invariant-loop-i : goal.invariant-loop-i
invariant-loop-i l = length (leading l.elements) ≡ l.i + length (leading (drop l.i l.elements))
