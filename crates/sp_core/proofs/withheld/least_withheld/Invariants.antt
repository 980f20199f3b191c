use Rattle.std.proofs.Common.{◌≡◌}
use Rattle.sp_core.proofs.KeptBack.{is_kept_by}
use Rattle.sp_core.proofs.Least.{least_unskipped}
use Rattle.sp_core.proofs.withheld.least_withheld.Given as goal

abbrev pub invariant-loop-run : goal.invariant-loop-run
invariant-loop-run l =
    l.found ≡ least_unskipped (is_kept_by l.parent.used.list l.label l.run-items l.run-index) l.first l.count l.skipped.list
