use Rattle.sp_cut.proofs.Adding.{rows_add_up}
use Rattle.sp_cut.proofs.law.rows_add_up.Goals as goal

pub returns : goal.returns
returns c = rows_add_up
