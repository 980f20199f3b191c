use Rattle.sp_query.specs.declared.mark.Mark.TheVariants as m
use Rattle.sp_query.specs.Grammar.{ListOf, Definition}
use Rattle.sp_parse.specs.Follow.{after_definitions}
use Rattle.sp_parse.proofs.Reading.{exit}
use Rattle.sp_parse.proofs.Forms as f
use Rattle.sp_parse.proofs.Defines.{list_some}
use Rattle.sp_parse.proofs.definitions.definitions.Goals as goal

pub returns-in_err-rest : goal.returns-in_err-rest
returns-in_err-rest c = exit _ _ _ _ _ _ _ c.from_residual.ensures.1 (f.after_mark_stops m.Define (λ n. ListOf (Definition n)) after_definitions list_some c.args.room _ _ c.in_err-rest.ensures)

pub returns : goal.returns
returns c = f.after_answers m.Define (λ n. ListOf (Definition n)) after_definitions list_some c.args.room _ _ _ _ c.in_ok-rest.ensures c.definition_list.ensures
