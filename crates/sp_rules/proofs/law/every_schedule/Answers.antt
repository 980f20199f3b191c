use Rattle.sp_rules.proofs.Facts.{facts}
use Rattle.sp_rules.proofs.Reached.{reached}
use Rattle.sp_rules.proofs.law.every_schedule.Goals as goal

pub returns : goal.returns
returns c = λ q bound xs compiled low high fits. reached q (facts q (c.compiled_plans_are_lawful.ensures q compiled)) bound xs low fits
