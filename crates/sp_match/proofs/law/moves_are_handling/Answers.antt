use Rattle.sp_match.proofs.MovesAreHandling.{moves_are_handling}
use Rattle.sp_match.proofs.law.moves_are_handling.Goals as goal

pub returns : goal.returns
returns c = moves_are_handling
