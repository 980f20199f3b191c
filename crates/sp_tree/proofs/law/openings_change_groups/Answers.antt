use Rattle.sp_tree.proofs.Decided.{openings_change}
use Rattle.sp_tree.proofs.law.openings_change_groups.Goals as goal

pub returns : goal.returns
returns g c = openings_change _
