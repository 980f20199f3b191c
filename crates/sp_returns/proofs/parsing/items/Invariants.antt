use Rattle.std.proofs.Common.{length}
use Rattle.sp_parse.specs.Reads.{never}
use Rattle.sp_parse.proofs.Forms.{Listing}
use Rattle.sp_returns.specs.Grammar.{Item}
use Rattle.sp_returns.proofs.parsing.items.Given as goal

abbrev pub invariant-each : goal.invariant-each
invariant-each l = Listing Item never l.room l.tokens l.list.items l.rest

abbrev pub decreases-each : goal.decreases-each
decreases-each l = length l.rest
