use Rattle.sp_tree.proofs.OneFirst.{one_first}
use Rattle.sp_tree.proofs.law.one_decision_first.Goals as goal

pub returns : goal.returns
returns g c = one_first _
