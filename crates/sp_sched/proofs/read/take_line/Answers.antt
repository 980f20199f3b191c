use Rattle.sp_sched.specs.Reading.{one_step}
use Rattle.sp_sched.proofs.Answering.{some_answers}
use Rattle.sp_sched.proofs.read.take_line.Goals as goal

pub returns-clause-taken : goal.returns-clause-taken
returns-clause-taken c = one_step _ (some_answers _ _ _ c.in-Some.is c.in_ok-step.ensures) c.in_ok-push.ensures.items
