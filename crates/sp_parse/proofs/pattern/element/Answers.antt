use Rattle.std.proofs.Common.{sym, ◌∙◌}
use Rattle.sp_parse.proofs.Reading.{exit}
use Rattle.sp_parse.proofs.PatternClause as p
use Rattle.sp_parse.proofs.pattern.element.Goals as goal

pub returns-in_err-names : goal.returns-in_err-names
returns-in_err-names c room = exit _ _ room _ _ _ _ c.from_residual.ensures.1 (p.element_set_stops room _ _ (sym c.begins.ensures ∙ c.if-begins.true) (c.in_err-names.ensures room))

pub returns-then-begins : goal.returns-then-begins
returns-then-begins c room = p.element_set_found room _ _ _ (sym c.begins.ensures ∙ c.if-begins.true) (c.in_ok-names.ensures room)

pub returns-then-begins-2 : goal.returns-then-begins-2
returns-then-begins-2 c room = p.element_negated room _ _ _ (sym c.begins-2.ensures ∙ c.if-begins-2.true) (c.negated.ensures room)

pub returns : goal.returns
returns c room = p.element_single room _ _ _ (sym c.begins.ensures ∙ c.if-begins.false) (sym c.begins-2.ensures ∙ c.if-begins-2.false) (c.single.ensures room)
