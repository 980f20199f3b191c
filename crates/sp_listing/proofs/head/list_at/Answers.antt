use Rattle.sp_emit.proofs.Answering.{at_none, at_some, is_none}
use Rattle.sp_listing.proofs.Heads.{no_list, no_rise}
use Rattle.sp_listing.proofs.head.list_at.Goals as goal

pub returns-in_default-2 : goal.returns-in_default-2
returns-in_default-2 c = no_list _ _ _ c.in-Some.ensures c.in_default-behind.ensures (at_none _ _ _ c.in_default-2.is c.in_ok-numbers.ensures)

pub returns : goal.returns
returns c = no_rise _ _ _ c.in-Some.ensures c.in_default-behind.ensures _ _ _ (at_some _ _ _ _ c.in-Some-2.is c.in_ok-numbers.ensures) c.deref.ensures.value (c.in_ok-numbers-2.ensures.none (is_none _ c.in-None.is))
