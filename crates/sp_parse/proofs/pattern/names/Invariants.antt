use Rattle.std.proofs.Common.{ℕ, length}
use Rattle.sp_parse.proofs.PatternClause.{Naming}
use Rattle.sp_parse.proofs.pattern.names.Given as goal

abbrev pub invariant-each : goal.invariant-each
invariant-each l = (room : ℕ) → Naming room l.tokens l.list l.rest

abbrev pub decreases-each : goal.decreases-each
decreases-each l = length l.rest
