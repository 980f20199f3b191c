use Rattle.sp_match.proofs.MovesLeadOn.{handling_is_lawful}
use Rattle.sp_match.proofs.law.handling_is_lawful.Goals as goal

pub returns : goal.returns
returns c = handling_is_lawful
