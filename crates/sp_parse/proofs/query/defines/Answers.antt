use Rattle.std.proofs.Common.{sym, ◌∙◌}
use Rattle.sp_parse.proofs.Reading.{exit}
use Rattle.sp_parse.proofs.Queries as f
use Rattle.sp_parse.proofs.query.defines.Goals as goal

pub returns-then-not-begins : goal.returns-then-not-begins
returns-then-not-begins c = f.none_defined c.args.room _ (sym c.begins.ensures ∙ c.if-not-begins.true)

pub returns-in_err-list : goal.returns-in_err-list
returns-in_err-list c = exit _ _ _ _ _ _ _ c.from_residual.ensures.1 (f.defined_stops c.args.room _ _ (sym c.begins.ensures ∙ c.if-not-begins.false) c.in_err-list.ensures)

pub returns : goal.returns
returns c = f.defined_found c.args.room _ _ _ (sym c.begins.ensures ∙ c.if-not-begins.false) c.in_ok-list.ensures
