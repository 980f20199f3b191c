use Rattle.sp_base.proofs.Placed.{past_last}
use Rattle.sp_base.proofs.place.is_past.Goals as goal

pub returns-in-Some : goal.returns-in-Some
returns-in-Some c =
    past_last c.args.list.now c.args.n c.in-Some.last.now c.requires c.in-Some.ensures.item.3.0 (c.in-Some.ensures.item.3.1 0)
