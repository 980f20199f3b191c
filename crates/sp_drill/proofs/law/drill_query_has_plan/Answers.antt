use Rattle.sp_drill.proofs.OnePlan.{has_plan}
use Rattle.sp_drill.proofs.law.drill_query_has_plan.Goals as goal

pub returns : goal.returns
returns c = has_plan c.one_reading.ensures
