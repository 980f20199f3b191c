use Rattle.std.proofs.Common.{◌-◌}
use Rattle.std.specs.List.{range_with_len}
use Rattle.sp_scan.specs.inside.Ahead.{AreIn, Keeps}
use Rattle.sp_scan.proofs.ahead.with_element.Given as goal

abbrev pub invariant-loop-name : goal.invariant-loop-name
invariant-loop-name l = Keeps l.mask l.all × AreIn l.all (range_with_len l.first (l.name - l.first))
