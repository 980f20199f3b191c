use Rattle.sp_rules.proofs.Adding.{coming_home_adds}
use Rattle.sp_rules.proofs.law.coming_home_adds_matches.Goals as goal

pub returns : goal.returns
returns c = λ q m n t v k closed compiled comes. coming_home_adds q (c.compiled_plans_are_lawful.ensures q compiled) m n t v k closed comes
