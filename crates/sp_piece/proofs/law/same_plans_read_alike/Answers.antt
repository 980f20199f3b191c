use Rattle.sp_piece.proofs.Alike.{same_plans_read_alike}
use Rattle.sp_piece.proofs.law.same_plans_read_alike.Goals as goal

pub returns : goal.returns
returns c = same_plans_read_alike c.same_predicates_hold_alike.ensures
