use Rattle.sp_window.proofs.ByReading.{windows_are_read}
use Rattle.sp_window.proofs.law.windows_are_read.Goals as goal

pub returns : goal.returns
returns c = windows_are_read
