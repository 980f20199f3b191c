use Rattle.sp_returns.proofs.Suiting.{fitted_is}
use Rattle.sp_returns.proofs.suited.fitted.Goals as goal

pub returns : goal.returns
returns c = fitted_is c.args.scope.now c.args.texts.now c.args.kind c.args.tree.now c.in_ok-made.made c.suited.result c.requires.none c.in_ok-made.ensures c.suited.ensures
