use Rattle.std.proofs.Common.{sym, ◌∙◌}
use Rattle.sp_parse.proofs.Reading.{exit}
use Rattle.sp_parse.proofs.EventClause as l
use Rattle.sp_parse.proofs.columns.kind.Goals as goal

pub returns-in_err-count : goal.returns-in_err-count
returns-in_err-count c room = exit _ _ room _ _ _ _ c.from_residual.ensures.1 (l.kind_digits_stop room _ _ (sym c.begins.ensures ∙ c.if-begins.true) (c.in_err-count.ensures room))

pub returns-then-begins : goal.returns-then-begins
returns-then-begins c room = l.kind_digits_found room _ _ _ (sym c.begins.ensures ∙ c.if-begins.true) (c.in_ok-count.ensures room)

pub returns-in_err-word : goal.returns-in_err-word
returns-in_err-word c room = exit _ _ room _ _ _ _ c.from_residual-in_err-word.ensures.1 (l.kind_plain_stops room _ _ (sym c.begins.ensures ∙ c.if-begins.false) c.in_err-word.ensures)

pub returns : goal.returns
returns c room = l.kind_plain_found room _ _ _ (sym c.begins.ensures ∙ c.if-begins.false) c.in_ok-word.ensures
