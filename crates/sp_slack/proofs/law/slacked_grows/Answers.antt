use Rattle.sp_slack.proofs.Growing.{grows}
use Rattle.sp_slack.proofs.law.slacked_grows.Goals as goal

pub returns : goal.returns
returns c = grows
