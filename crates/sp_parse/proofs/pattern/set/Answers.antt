use Rattle.sp_query.specs.declared.mark.Mark.TheVariants as m
use Rattle.sp_query.specs.Grammar.{Names}
use Rattle.sp_parse.proofs.Reading.{exit}
use Rattle.sp_parse.proofs.Forms as f
use Rattle.sp_parse.proofs.PatternClause as p
use Rattle.sp_parse.proofs.pattern.set.Goals as goal

pub returns-in_err-rest : goal.returns-in_err-rest
returns-in_err-rest c room = exit _ _ room _ _ _ _ c.from_residual.ensures.1 (f.clause_mark_stops m.Set (λ _. Names) p.after_names p.names_some p.names_out room _ _ c.in_err-rest.ensures)

pub returns-in_err-rest-2 : goal.returns-in_err-rest-2
returns-in_err-rest-2 c room = exit _ _ room _ _ _ _ c.from_residual-in_err-rest-2.ensures.1 (f.clause_left_stops m.Set (λ _. Names) p.after_names p.names_some p.names_out room _ _ _ c.in_ok-rest.ensures c.in_err-rest-2.ensures)

pub returns : goal.returns
returns c room = f.clause_closes m.Set (λ _. Names) p.after_names p.names_some p.names_out room _ _ _ _ _ c.in_ok-rest.ensures c.in_ok-rest-2.ensures (c.names.ensures room) c.closed.ensures
