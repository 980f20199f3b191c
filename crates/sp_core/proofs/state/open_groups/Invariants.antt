use Rattle.std.proofs.Common.{◌≡◌, map, take}
use Rattle.sp_group.specs.Seen.{seen_group}
use Rattle.sp_core.specs.Printing.{groups_in}
use Rattle.sp_core.proofs.state.open_groups.Given as goal

abbrev pub invariant-loop-run : goal.invariant-loop-run
invariant-loop-run l = map seen_group l.groups.items ≡ groups_in (take l.run-index l.run-items)
