use Rattle.sp_sched.proofs.Alone.{one_schedule}
use Rattle.sp_sched.proofs.law.one_schedule.Goals as goal

pub returns : goal.returns
returns c = one_schedule
