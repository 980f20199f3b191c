use Rattle.sp_rules.proofs.ByGroups.{version_has_groups}
use Rattle.sp_rules.proofs.law.versions_have_groups.Goals as goal

pub returns : goal.returns
returns c = λ q events v compiled. version_has_groups q (c.compiled_plans_are_lawful.ensures q compiled) events v
