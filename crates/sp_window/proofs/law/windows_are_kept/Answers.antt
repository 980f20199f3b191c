use Rattle.sp_window.proofs.Numbers.{windows_are_kept}
use Rattle.sp_window.proofs.law.windows_are_kept.Goals as goal

pub returns : goal.returns
returns c = windows_are_kept
