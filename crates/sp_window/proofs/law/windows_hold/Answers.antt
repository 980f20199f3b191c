use Rattle.sp_window.proofs.Numbers.{windows_hold}
use Rattle.sp_window.proofs.law.windows_hold.Goals as goal

pub returns : goal.returns
returns c = windows_hold
