use Rattle.sp_match.proofs.MovesLeadOn.{moves_lead_on}
use Rattle.sp_match.proofs.law.moves_lead_on.Goals as goal

pub returns : goal.returns
returns c = moves_lead_on
