use Rattle.sp_window.proofs.Growing.{finished_stay}
use Rattle.sp_window.proofs.law.finished_windows_stay.Goals as goal

pub returns : goal.returns
returns c = finished_stay
