use Rattle.sp_sched.proofs.Answering.{differs, none_answers, some_answers}
use Rattle.sp_sched.proofs.Steps.{no_spawn, no_parent, no_label, spawn_there}
use Rattle.sp_sched.proofs.line.spawn_of.Goals as goal

pub returns-in_default : goal.returns-in_default
returns-in_default c = no_spawn _ (differs _ _ _ _ c.eq.ensures c.if-eq.false c.as_slice.ensures) c.in_default.ensures

pub returns-in_default-number : goal.returns-in_default-number
returns-in_default-number c = no_parent _ (differs _ _ _ _ c.eq.ensures c.if-eq.false c.as_slice.ensures) _ _ c.in-Some.ensures c.in_default-number.ensures

pub returns-in-None : goal.returns-in-None
returns-in-None c = no_label _ (differs _ _ _ _ c.eq.ensures c.if-eq.false c.as_slice.ensures) _ _ c.in-Some.ensures (none_answers _ _ c.in-None.is c.in_ok-label.ensures)

pub returns-in-Some-2 : goal.returns-in-Some-2
returns-in-Some-2 c = spawn_there _ _ _ c.in-Some.ensures _ _ c.in-Some-number.ensures (some_answers _ _ _ c.in-Some-2.is c.in_ok-label.ensures)
