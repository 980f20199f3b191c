use Rattle.sp_query.specs.declared.mark.Mark.TheVariants as m
use Rattle.sp_query.specs.Grammar.{Name}
use Rattle.sp_parse.specs.Reads.{never}
use Rattle.sp_parse.proofs.Reading.{exit}
use Rattle.sp_parse.proofs.Forms as f
use Rattle.sp_parse.proofs.EventClause.{name_some}
use Rattle.sp_returns.proofs.parsing.target.Goals as goal

pub returns-in_err-rest : goal.returns-in_err-rest
returns-in_err-rest c room = exit _ _ room _ _ _ _ c.from_residual.ensures.1 (f.after_mark_stops m.As (λ _. Name) never name_some room _ _ c.in_err-rest.ensures)

pub returns : goal.returns
returns c room = f.after_answers m.As (λ _. Name) never name_some room _ _ _ _ c.in_ok-rest.ensures (c.ident.ensures room)
