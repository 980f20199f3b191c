use Rattle.std.proofs.Common.{◌≡◌, take, string_bytes}
use Rattle.sp_lex.proofs.word.name_text.Given as goal

abbrev pub invariant-loop-b : goal.invariant-loop-b
invariant-loop-b l = string_bytes l.out ≡ take l.b-index l.bytes
