use Rattle.std.proofs.Common.{ℕ, length}
use Rattle.sp_query.specs.Grammar.{Column}
use Rattle.sp_parse.specs.Reads.{never}
use Rattle.sp_parse.proofs.Forms.{Listing}
use Rattle.sp_parse.proofs.columns.column_list.Given as goal

abbrev pub invariant-each : goal.invariant-each
invariant-each l = (room : ℕ) → Listing (λ _. Column) never room l.tokens l.list l.rest

abbrev pub decreases-each : goal.decreases-each
decreases-each l = length l.rest
