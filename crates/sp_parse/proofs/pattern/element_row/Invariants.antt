use Rattle.std.proofs.Common.{ℕ, length}
use Rattle.sp_parse.proofs.PatternClause.{Elementing}
use Rattle.sp_parse.proofs.pattern.element_row.Given as goal

abbrev pub invariant-each : goal.invariant-each
invariant-each l = (room : ℕ) → Elementing room l.tokens l.list l.rest

abbrev pub decreases-each : goal.decreases-each
decreases-each l = length l.rest
