use Rattle.sp_cli.proofs.Within.{numbers_are_within}
use Rattle.sp_cli.proofs.law.numbers_are_within.Goals as goal

pub returns : goal.returns
returns c = numbers_are_within
