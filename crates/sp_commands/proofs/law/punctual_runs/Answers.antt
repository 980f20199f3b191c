use Rattle.sp_commands.proofs.Punctual.{punctual_runs}
use Rattle.sp_commands.proofs.law.punctual_runs.Goals as goal

pub returns : goal.returns
returns c = punctual_runs c.loose_is_reading.ensures
