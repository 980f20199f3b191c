use Rattle.std.proofs.Common.{◌≡◌, not, take, None}
use Rattle.std.specs.List.{find}
use Rattle.sp_plan.specs.Runs.{is_filled}
use Rattle.sp_scan.proofs.ahead.unfilled.Given as goal

abbrev pub invariant-loop-element : goal.invariant-loop-element
invariant-loop-element l = find (λ element. not (is_filled l.pairs element)) (take l.element-index l.element-items) ≡ None
