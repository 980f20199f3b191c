use Rattle.std.proofs.Common.{sym, ◌∙◌}
use Rattle.sp_parse.proofs.Reading.{exit}
use Rattle.sp_parse.proofs.EndClauses as e
use Rattle.sp_parse.proofs.clauses.consume.Goals as goal

pub returns-in_err-rest : goal.returns-in_err-rest
returns-in_err-rest c room = exit _ _ room _ _ _ _ c.from_residual.ensures.1 (e.consume_mark_stops room _ _ c.in_err-rest.ensures)

pub returns-in_err-names : goal.returns-in_err-names
returns-in_err-names c room = exit _ _ room _ _ _ _ c.from_residual-in_err-names.ensures.1 (e.consume_names_stop room _ _ _ c.in_ok-rest.ensures (sym c.begins.ensures ∙ c.if-begins.true) (c.in_err-names.ensures room))

pub returns-then-begins : goal.returns-then-begins
returns-then-begins c room = e.consume_names_found room _ _ _ _ c.in_ok-rest.ensures (sym c.begins.ensures ∙ c.if-begins.true) (c.in_ok-names.ensures room)

pub returns : goal.returns
returns c room = e.consume_word_answers room _ _ _ _ c.in_ok-rest.ensures (sym c.begins.ensures ∙ c.if-begins.false) c.all_or_none.ensures
