use Rattle.sp_cut.proofs.Growing.{rows_stay}
use Rattle.sp_cut.proofs.law.rows_stay.Goals as goal

pub returns : goal.returns
returns c = rows_stay
