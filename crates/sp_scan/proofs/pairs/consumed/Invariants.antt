use Rattle.std.proofs.Common.{◌≡◌, take}
use Rattle.std.specs.Prelude.{slice_get}
use Rattle.sp_plan.specs.Runs.{is_consumed}
use Rattle.sp_scan.proofs.Picked.{picked}
use Rattle.sp_scan.proofs.pairs.consumed.Given as goal

abbrev pub invariant-loop-pair : goal.invariant-loop-pair
invariant-loop-pair l = l.numbers.list ≡ picked (λ pair. is_consumed (slice_get l.plan.names pair.0)) (take l.pair-index l.pairs)
