use Rattle.std.proofs.Common.{◌≡◌, ◌-◌, false}
use Rattle.std.specs.List.{list_any, range_with_len}
use Rattle.sp_match.specs.inside.Kept.{kept, pairs}
use Rattle.sp_match.specs.inside.Offer.{answer}
use Rattle.sp_match.proofs.taking.fulfils_one.Given as goal

abbrev pub invariant-loop-name : goal.invariant-loop-name
invariant-loop-name l = list_any (answer l.offer l.at (pairs (kept l.run))) (range_with_len l.fn.first (l.name - l.fn.first)) ≡ false
