use Rattle.sp_sched.proofs.Reading.{first_line}
use Rattle.sp_sched.proofs.read.first_line.Goals as goal

pub returns : goal.returns
returns c = first_line _ _ _ _ c.in-Some.ensures c.without_cr.ensures
