use Rattle.sp_cli.proofs.PairsFound.{pairs_are_found}
use Rattle.sp_cli.proofs.law.pairs_are_found.Goals as goal

pub returns : goal.returns
returns c = pairs_are_found
