use Rattle.sp_tree.proofs.Decided.{decisions_add}
use Rattle.sp_tree.proofs.law.decisions_add_up.Goals as goal

pub returns : goal.returns
returns g c = decisions_add _
