use Rattle.sp_sched.proofs.Answering.{at_none, at_some, differs}
use Rattle.sp_sched.proofs.Labels.{none_named, label_answered}
use Rattle.sp_sched.proofs.label.label_of.Goals as goal

pub returns-in-Some : goal.returns-in-Some
returns-in-Some c = label_answered _ _ _ (at_some _ _ _ _ c.in-Some.is c.in_ok-runs.ensures) c.deref.ensures.value (differs _ _ _ _ c.eq.ensures c.if-eq.false c.as_slice.ensures) _ c.new.ensures.value c.new.ensures.some c.new.ensures.none

pub returns-in-None : goal.returns-in-None
returns-in-None c = none_named _ (differs _ _ _ _ c.eq.ensures c.if-eq.false c.as_slice.ensures) (at_none _ _ _ c.in-None.is c.in_ok-runs.ensures)
