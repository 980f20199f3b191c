use Rattle.sp_query.specs.declared.mark.Mark.TheVariants as m
use Rattle.sp_parse.specs.Follow.{after_pred}
use Rattle.sp_parse.proofs.Reading.{exit}
use Rattle.sp_parse.proofs.Forms as f
use Rattle.sp_parse.proofs.Defines.{Choice, choice_some}
use Rattle.sp_parse.proofs.definitions.opening.Goals as goal

pub returns-in_err-rest : goal.returns-in_err-rest
returns-in_err-rest c = exit _ _ _ _ _ _ _ c.from_residual.ensures.1 (f.after_mark_stops m.From Choice after_pred choice_some c.args.room _ _ c.in_err-rest.ensures)

pub returns : goal.returns
returns c = f.after_answers m.From Choice after_pred choice_some c.args.room _ _ _ _ c.in_ok-rest.ensures c.every_or_when.ensures
