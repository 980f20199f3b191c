use Rattle.std.proofs.Common.{rules}
use Rattle.sp_cli.proofs.Numbers.{number-told, number-untold}
use Rattle.sp_cli.proofs.values.long_number_of.Goals as goal

pub returns-in-Ok-clause-ok : goal.returns-in-Ok-clause-ok
returns-in-Ok-clause-ok c = number-told c.args.digits c.args.least c.args.greatest c.args.text.now c.in-Ok.n (search rules)

pub returns-in_default-3-clause-usage : goal.returns-in_default-3-clause-usage
returns-in_default-3-clause-usage c = number-untold c.args.digits c.args.least c.args.greatest c.args.text.now (search rules)
