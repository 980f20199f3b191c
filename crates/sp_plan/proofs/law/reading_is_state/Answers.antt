use Rattle.sp_plan.proofs.Readings.{reading_is_state}
use Rattle.sp_plan.proofs.law.reading_is_state.Goals as goal

pub returns : goal.returns
returns c = reading_is_state
