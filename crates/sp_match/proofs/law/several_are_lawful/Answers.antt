use Rattle.sp_match.proofs.SeveralAreLawful.{several_are_lawful}
use Rattle.sp_match.proofs.law.several_are_lawful.Goals as goal

pub returns : goal.returns
returns c = several_are_lawful
