use Rattle.std.proofs.Common.{length}
use Rattle.sp_emit.proofs.Commas.{Going}
use Rattle.sp_emit.proofs.places.numbers_at.Given as goal

abbrev pub invariant-each : goal.invariant-each
invariant-each l = Going l.text l.numbers.items l.rest

abbrev pub decreases-each : goal.decreases-each
decreases-each l = length l.rest
