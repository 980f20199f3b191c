use Rattle.std.proofs.Common.{◌≡◌, ◌-◌, not, None}
use Rattle.std.specs.List.{find, filter, range_with_len}
use Rattle.sp_plan.specs.Runs.{is_bound, name_holds}
use Rattle.sp_scan.proofs.asking.lacking.Given as goal

abbrev pub invariant-loop-name : goal.invariant-loop-name
invariant-loop-name l = find (name_holds l.offer.plan.now l.pairs l.offer.event.now) (filter (λ name. not (is_bound l.pairs name)) (range_with_len l.first (l.name - l.first))) ≡ None
