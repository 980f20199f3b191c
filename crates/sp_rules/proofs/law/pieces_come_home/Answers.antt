use Rattle.sp_rules.proofs.ComingHome.{piece_comes_home}
use Rattle.sp_rules.proofs.law.pieces_come_home.Goals as goal

pub returns : goal.returns
returns c = λ q m n t v k closed after compiled comes follows. piece_comes_home q (c.compiled_plans_are_lawful.ensures q compiled) m n t v k closed comes after follows
