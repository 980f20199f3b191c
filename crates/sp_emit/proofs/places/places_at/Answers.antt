use Rattle.sp_emit.proofs.Answering.{at_some, is_none}
use Rattle.sp_emit.proofs.Commas.{none_rising}
use Rattle.sp_emit.proofs.places.places_at.Goals as goal

pub returns : goal.returns
returns c = none_rising _ _ _ _ (at_some _ _ _ _ c.in-Some.is c.in_ok-numbers.ensures) c.deref.ensures.value (c.in_ok-places.ensures.none (is_none _ c.in-None.is))
