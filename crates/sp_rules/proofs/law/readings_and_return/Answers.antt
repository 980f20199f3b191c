use Rattle.sp_rules.proofs.Returning.{read_and_returned}
use Rattle.sp_rules.proofs.law.readings_and_return.Goals as goal

pub returns : goal.returns
returns c = read_and_returned
