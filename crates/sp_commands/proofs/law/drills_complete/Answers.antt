use Rattle.sp_commands.proofs.Drills.{drills_complete}
use Rattle.sp_commands.proofs.law.drills_complete.Goals as goal

pub returns : goal.returns
returns c = drills_complete
