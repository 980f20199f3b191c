use Rattle.std.proofs.Common.{length, string_bytes}
use Rattle.std.specs.Str.{IsUtf8}
use Rattle.sp_lex.proofs.Literals.{Within}
use Rattle.sp_lex.proofs.literal.literal.Given as goal

abbrev pub invariant-each : goal.invariant-each
invariant-each l = record {
  utf8 : IsUtf8 l.rest;
  reads : Within l.text (string_bytes l.value) l.rest;
}

abbrev pub decreases-each : goal.decreases-each
decreases-each l = length l.rest
