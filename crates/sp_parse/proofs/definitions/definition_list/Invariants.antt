use Rattle.std.proofs.Common.{length}
use Rattle.sp_query.specs.Grammar.{Definition}
use Rattle.sp_parse.specs.Follow.{after_pred}
use Rattle.sp_parse.proofs.Forms.{Listing}
use Rattle.sp_parse.proofs.definitions.definition_list.Given as goal

abbrev pub invariant-each : goal.invariant-each
invariant-each l = Listing Definition after_pred l.room l.tokens l.list l.rest

abbrev pub decreases-each : goal.decreases-each
decreases-each l = length l.rest
