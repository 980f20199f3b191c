use Rattle.sp_load.proofs.Refusals.{compile_refused}
use Rattle.sp_load.proofs.query.plan_of.Goals as goal

pub returns-in-Err-clause-refused : goal.returns-in-Err-clause-refused
returns-in-Err-clause-refused c = λ text utf8 is. compile_refused text utf8 c.args.query.now is c.in-Err.fault c.no_plan.result c.in-Err.ensures.refused c.no_plan.ensures.memory c.no_plan.ensures.other
