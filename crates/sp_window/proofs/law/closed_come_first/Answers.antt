use Rattle.sp_window.proofs.Numbers.{closed_come_first}
use Rattle.sp_window.proofs.law.closed_come_first.Goals as goal

pub returns : goal.returns
returns c = closed_come_first
