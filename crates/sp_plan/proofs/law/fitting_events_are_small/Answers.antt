use Rattle.sp_plan.proofs.Fitting.{fitting_small}
use Rattle.sp_plan.proofs.law.fitting_events_are_small.Goals as goal

pub returns : goal.returns
returns c = fitting_small
