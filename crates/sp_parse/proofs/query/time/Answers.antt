use Rattle.std.proofs.Common.{sym, ◌∙◌}
use Rattle.sp_parse.proofs.Reading.{exit}
use Rattle.sp_parse.proofs.Queries as f
use Rattle.sp_parse.proofs.query.time.Goals as goal

pub returns-in_err-name : goal.returns-in_err-name
returns-in_err-name c room = exit _ _ room _ _ _ _ c.from_residual.ensures.1 (f.time_stops room _ _ (sym c.begins.ensures ∙ c.if-not-begins.false) (c.in_err-name.ensures room))

pub returns : goal.returns
returns c room = f.time_found room _ _ _ (sym c.begins.ensures ∙ c.if-not-begins.false) (c.in_ok-name.ensures room)

pub returns-then-not-begins : goal.returns-then-not-begins
returns-then-not-begins c room = f.no_time room _ (sym c.begins.ensures ∙ c.if-not-begins.true)
