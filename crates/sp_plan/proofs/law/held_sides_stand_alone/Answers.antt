use Rattle.sp_plan.proofs.HeldSides.{stand_alone}
use Rattle.sp_plan.proofs.law.held_sides_stand_alone.Goals as goal

pub returns : goal.returns
returns c = stand_alone
