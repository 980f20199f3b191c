use Rattle.std.proofs.Common.{◌≡◌, ℕ, ◌&&◌, ◌||◌}
use Rattle.sp_base.specs.Numbers.{is_within, is_among}
use Rattle.sp_core.proofs.KeptBack.{is_kept_by}
use Rattle.sp_core.proofs.withheld.withheld_within.Given as goal

abbrev pub invariant-loop-run : goal.invariant-loop-run
invariant-loop-run l =
    (i : ℕ) → is_among l.numbers.list i ≡ (is_among l.fn.numbers.list i || (is_within l.first l.count i && is_kept_by l.parent.used.list l.label l.run-items l.run-index i))
