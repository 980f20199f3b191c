use Rattle.std.proofs.Common.{inr, ℕ, List, subst}
use Rattle.sp_sched.specs.Schedules.{IsBadLine}
use Rattle.sp_load.specs.Places.{text_of}
use Rattle.sp_commands.specs.Trace.{bad_line}
use Rattle.sp_commands.proofs.Tracing.{query_faulty}
use Rattle.sp_commands.proofs.scheduled.task_of.Goals as goal

pub returns-in-Err-clause-refused : goal.returns-in-Err-clause-refused
returns-in-Err-clause-refused c = query_faulty (text_of c.args.texts.now.query) c.args.texts.now.content.items c.in-Err.refusal c.status_of_refusal.result c.status_of_refusal.ensures c.in-Err.ensures.refused

pub returns-in-Err-BadStep-clause-refused : goal.returns-in-Err-BadStep-clause-refused
returns-in-Err-BadStep-clause-refused c =
    let bad = subst (λ (t : List ℕ). IsBadLine t c.in-Err-BadStep.line) c.deref.ensures.value (rw c.in-Err-BadStep.field-0-is at c.in-Err-BadStep.ensures.fault) in
    inr (λ bound bytes ended. bad_line c.in-Ok.plan c.in-Err-BadStep.line c.in-Ok.ensures.plan bad)
