use Rattle.std.proofs.Common.{◌≡◌, ◌-◌, true}
use Rattle.std.specs.List.{list_all, range_with_len}
use Rattle.sp_plan.specs.Runs.{is_bound}
use Rattle.sp_scan.proofs.ahead.all_bound.Given as goal

abbrev pub invariant-loop-name : goal.invariant-loop-name
invariant-loop-name l = list_all (is_bound l.pairs) (range_with_len l.first (l.name - l.first)) ≡ true
