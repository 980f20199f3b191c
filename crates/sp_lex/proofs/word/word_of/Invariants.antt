use Rattle.std.proofs.Common.{◌≢◌, take}
use Rattle.std.specs.List.{All}
use Rattle.sp_lex.specs.Spelling.{spelling}
use Rattle.sp_lex.proofs.word.word_of.Given as goal

abbrev pub invariant-loop-word : goal.invariant-loop-word
invariant-loop-word l = All (λ w. l.bytes ≢ spelling w) (take l.word-index l.word-items)
