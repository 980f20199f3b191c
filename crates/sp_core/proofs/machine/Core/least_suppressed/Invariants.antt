use Rattle.std.proofs.Common.{◌≡◌, true, is_some}
use Rattle.sp_group.specs.Family.{entry_at}
use Rattle.sp_tree.specs.Grown.{kin}
use Rattle.sp_core.specs.Holding.{holding}
use Rattle.sp_core.specs.Withheld.{lesser}
use Rattle.sp_core.proofs.Suppressed.{least_of}
use Rattle.sp_core.proofs.machine.Core.least_suppressed.Given as goal

abbrev pub invariant-loop-parent : goal.invariant-loop-parent
invariant-loop-parent l = record {
  live : is_some (entry_at kin l.self-inside.tree.entries l.below) ≡ true;
  found : lesser l.found (least_of (holding l.self-inside) l.below l.first l.count l.skipped.list)
      ≡ least_of (holding l.self-inside) l.version l.first l.count l.skipped.list;
}

abbrev pub decreases-loop-parent : goal.decreases-loop-parent
decreases-loop-parent l = l.below
