use Rattle.std.proofs.Common.{◌≡◌, take, not, None}
use Rattle.std.specs.List.{find}
use Rattle.sp_plan.specs.Runs.{is_filled}
use Rattle.sp_match.specs.inside.Kept.{kept, pairs}
use Rattle.sp_match.proofs.taking.filled_front.Given as goal

abbrev pub invariant-loop-i : goal.invariant-loop-i
invariant-loop-i l = find (λ element. not (is_filled (pairs (kept l.run)) element)) (take l.i l.elements) ≡ None
