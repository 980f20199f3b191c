use Rattle.sp_match.proofs.AbandonmentsAreTold.{abandonments_are_told}
use Rattle.sp_match.proofs.law.abandonments_are_told.Goals as goal

pub returns : goal.returns
returns c = abandonments_are_told
