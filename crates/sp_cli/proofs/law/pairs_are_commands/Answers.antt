use Rattle.sp_cli.proofs.PairedCommands.{pairs_are_commands}
use Rattle.sp_cli.proofs.law.pairs_are_commands.Goals as goal

pub returns : goal.returns
returns c = pairs_are_commands c.pairs_are_found.ensures
