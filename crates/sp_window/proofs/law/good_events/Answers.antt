use Rattle.sp_window.proofs.Numbers.{good_events}
use Rattle.sp_window.proofs.law.good_events.Goals as goal

pub returns : goal.returns
returns c = good_events
