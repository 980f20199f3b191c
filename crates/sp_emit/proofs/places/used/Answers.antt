use Rattle.sp_emit.proofs.Answering.{at_some, at_none, differs}
use Rattle.sp_emit.proofs.Lines.{none_used, none_after}
use Rattle.sp_emit.proofs.places.used.Goals as goal

pub returns-in_default : goal.returns-in_default
returns-in_default c = none_used _ (differs _ _ _ _ c.eq.ensures c.if-eq.false c.as_slice.ensures) (at_none _ _ _ c.in_default.is c.in_ok-places.ensures)

pub returns : goal.returns
returns c = none_after _ (differs _ _ _ _ c.eq.ensures c.if-eq.false c.as_slice.ensures) _ _ (at_some _ _ _ _ c.in-Some.is c.in_ok-places.ensures)
    (differs _ _ _ _ c.eq-2.ensures c.if-eq-2.false c.as_slice-2.ensures)
