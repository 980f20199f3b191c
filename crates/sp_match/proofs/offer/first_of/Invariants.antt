use Rattle.std.proofs.Common.{◌≡◌, ◌-◌, [], None}
use Rattle.std.specs.List.{find, range_with_len}
use Rattle.sp_plan.specs.Runs.{name_holds}
use Rattle.sp_match.proofs.offer.first_of.Given as goal

abbrev pub invariant-loop-name : goal.invariant-loop-name
invariant-loop-name l = find (name_holds l.plan [] l.event) (range_with_len l.first (l.name - l.first)) ≡ None
