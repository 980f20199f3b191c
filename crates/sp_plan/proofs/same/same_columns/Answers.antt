use Rattle.std.proofs.lemmas.Slice.Eq.{slice_eq-Decides}
use Rattle.sp_plan.proofs.Decided.{column_decides}
use Rattle.sp_plan.proofs.same.same_columns.Goals as goal

pub returns : goal.returns
returns c = slice_eq-Decides column_decides c.args.xs.now c.args.ys.now c.eq.result c.eq.ensures
