use Rattle.std.proofs.Common.{◌≡◌, ◌∷◌, ◌++◌, length, string_bytes}
use Rattle.std.specs.Str.{IsUtf8}
use Rattle.sp_lex.specs.Spelling.{doubled}
use Rattle.sp_syntax.proofs.tokens.literal.Given as goal

abbrev pub invariant-each : goal.invariant-each
invariant-each l = record {
  utf8 : IsUtf8 l.rest;
  writes : string_bytes l.out ++ doubled l.rest ≡ string_bytes l.fn.out ++ (39 ∷ doubled l.text);
}

abbrev pub decreases-each : goal.decreases-each
decreases-each l = length l.rest
