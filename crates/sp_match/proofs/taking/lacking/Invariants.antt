use Rattle.std.proofs.Common.{◌≡◌, ◌-◌, not, None}
use Rattle.std.specs.List.{find, filter, range_with_len}
use Rattle.sp_plan.specs.Runs.{is_bound}
use Rattle.sp_match.specs.inside.Kept.{kept, pairs}
use Rattle.sp_match.specs.inside.Offer.{answer}
use Rattle.sp_match.proofs.taking.lacking.Given as goal

abbrev pub invariant-loop-name : goal.invariant-loop-name
invariant-loop-name l = find (answer l.offer l.at (pairs (kept l.run))) (filter (λ name. not (is_bound (pairs (kept l.run)) name)) (range_with_len l.first (l.name - l.first))) ≡ None
