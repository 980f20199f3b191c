use Rattle.std.proofs.Common.{◌≡◌, ℕ, ◌<◌, ◌≤◌, false, map}
use Rattle.sp_plan.specs.Masks.{has}
use Rattle.sp_match.specs.inside.Kept.{kept, pairs}
use Rattle.sp_match.specs.inside.Takers.{is_wanted, run_in}
use Rattle.sp_match.proofs.holdings.wanting.Given as goal

abbrev pub invariant-loop-at : goal.invariant-loop-at
invariant-loop-at l = record {
  seen : (k : ℕ) → k < l.at → has l.mask k ≡ is_wanted l.plan (run_in (map pairs (map kept l.runs)) k) l.name;
  others : (k : ℕ) → l.at ≤ k → has l.mask k ≡ false;
}
