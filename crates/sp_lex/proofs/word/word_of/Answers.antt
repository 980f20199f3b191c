use Rattle.std.proofs.Common.{◌≢◌, arith, rules}
use Rattle.std.proofs.lemmas.List.Elements.{All-more}
use Rattle.sp_lex.specs.declared.token.Word.TheVariants.{Event}
use Rattle.sp_lex.specs.Spelling.{spelling}
use Rattle.sp_lex.proofs.Tables.{words, all_words}
use Rattle.sp_lex.proofs.word.word_of.Goals as goal

pub loop-word-preserved : goal.loop-word-preserved
loop-word-preserved c = All-more (λ w. c.args.bytes.now ≢ spelling w) words c.loop-word.word-index Event (omega arith) c.loop-word.invariant (search rules)

pub returns : goal.returns
returns c = all_words (λ w. c.args.bytes.now ≢ spelling w) c.loop-word.word-index (omega arith) c.loop-word.invariant
