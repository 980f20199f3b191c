use Rattle.std.proofs.Common.{◌-◌, length}
use Rattle.sp_lex.proofs.Lexing.{Underway}
use Rattle.sp_lex.proofs.lexer.lex.Given as goal

abbrev pub invariant-each : goal.invariant-each
invariant-each l = Underway l.text (length l.text - length l.rest) l.rest l.tokens.items

abbrev pub decreases-each : goal.decreases-each
decreases-each l = length l.rest
