use Rattle.sp_window.proofs.Numbers.{windows_are_few}
use Rattle.sp_window.proofs.law.windows_are_few.Goals as goal

pub returns : goal.returns
returns c = windows_are_few
