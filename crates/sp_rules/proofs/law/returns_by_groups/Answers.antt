use Rattle.sp_rules.proofs.ByGroups.{by_groups}
use Rattle.sp_rules.proofs.law.returns_by_groups.Goals as goal

pub returns : goal.returns
returns c = λ q m n t v k closed groups compiled comes to. by_groups q (c.compiled_plans_are_lawful.ensures q compiled) m n t v k closed groups comes to
