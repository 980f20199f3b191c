use Rattle.std.proofs.Common.{refl}
use Rattle.sp_lex.specs.declared.token.Kernel.TheVariants as k
use Rattle.sp_query.specs.declared.mark.Mark.TheVariants as m
use Rattle.sp_query.specs.Phrase.{One}
use Rattle.sp_query.specs.Grammar.{kernel, whole}
use Rattle.sp_parse.specs.Reads.{never}
use Rattle.sp_parse.proofs.Reading.{exit}
use Rattle.sp_parse.proofs.Forms as f
use Rattle.sp_parse.proofs.EventClause as l
use Rattle.sp_parse.proofs.columns.digits.Goals as goal

pub returns-in_err-rest : goal.returns-in_err-rest
returns-in_err-rest c room = exit _ _ room _ _ _ _ c.from_residual.ensures.1 (f.after_mark_stops m.Dec (λ _. One (kernel whole)) never l.whole_some room _ _ c.in_err-rest.ensures)

pub returns : goal.returns
returns c room = f.after_answers m.Dec (λ _. One (kernel whole)) never l.whole_some room _ _ _ _ c.in_ok-rest.ensures (f.takes_answers whole (k.Whole 0) 0 refl room _ _ _ c.whole.ensures)
