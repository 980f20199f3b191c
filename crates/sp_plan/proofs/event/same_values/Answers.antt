use Rattle.std.proofs.lemmas.Slice.Eq.{slice_eq-Decides}
use Rattle.sp_plan.proofs.Decided.{value_decides}
use Rattle.sp_plan.proofs.event.same_values.Goals as goal

pub returns : goal.returns
returns c = slice_eq-Decides value_decides c.args.xs.now c.args.ys.now c.eq.result c.eq.ensures
