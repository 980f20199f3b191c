use Rattle.std.proofs.Common.{◌∙◌}
use Rattle.sp_rows.proofs.FewDigits.{few_write}
use Rattle.sp_rows.proofs.numbers.whole_number_of.Goals as goal

pub returns-in-Some : goal.returns-in-Some
returns-in-Some c = c.as_value.ensures ∙ few_write c.args.cell.now c.in-Some.number c.in-Some.ensures.digits c.in-Some.ensures.value c.in-Some.ensures.below
