use Rattle.sp_load.proofs.Refusals.{plan_for, refused_for}
use Rattle.sp_load.proofs.query.read_query.Goals as goal

pub returns-clause-plan : goal.returns-clause-plan
returns-clause-plan c = plan_for c.args.text.now c.utf8.text c.in_ok-query.query c.in_ok-query.ensures.query c.plan_of.result c.plan_of.ensures.plan

pub returns-clause-refused : goal.returns-clause-refused
returns-clause-refused c = refused_for c.args.text.now c.utf8.text c.in_ok-query.query c.in_ok-query.ensures.query c.plan_of.result c.plan_of.ensures.refused
