use Rattle.std.proofs.Common.{sym, subst}
use Rattle.sp_load.specs.Places.{text_of}
use Rattle.sp_answer.specs.Outcome.{ending}
use Rattle.sp_answer.proofs.Answering.{ran_weaker}
use Rattle.sp_commands.specs.Texts.{by_run}
use Rattle.sp_commands.specs.Trace.{IsPlanTrace, TextsOutcome, traces}
use Rattle.sp_commands.proofs.Tracing.{steps_stand}
use Rattle.sp_commands.proofs.scheduled.trace_texts.Goals as goal

pub trace_task-requires-clause-steps : goal.trace_task-requires-clause-steps
trace_task-requires-clause-steps g c κs within = steps_stand _ _ c.in-Ok.ensures.steps

pub returns-in-Ok : goal.returns-in-Ok
returns-in-Ok g c =
    let text = text_of c.args.texts.now.query in
    let content = c.args.texts.now.content.items in
    let task = c.in-Ok.task in
    by_run (ran_weaker (IsPlanTrace task.plan c.args.live task.steps.items) (TextsOutcome text content c.args.live) _ _ (ending c.trace_task.result)
    (λ b e o is. subst (TextsOutcome text content c.args.live b e) (sym is) (traces task.plan task.steps.items c.in-Ok.ensures.plan c.in-Ok.ensures.steps)) c.trace_task.ensures)
