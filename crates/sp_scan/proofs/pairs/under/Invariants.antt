use Rattle.std.proofs.Common.{◌≡◌, ◌==◌, take}
use Rattle.sp_scan.proofs.Picked.{picked}
use Rattle.sp_scan.proofs.pairs.under.Given as goal

abbrev pub invariant-loop-pair : goal.invariant-loop-pair
invariant-loop-pair l = l.numbers.list ≡ picked (λ pair. pair.0 == l.name) (take l.pair-index l.pairs)
