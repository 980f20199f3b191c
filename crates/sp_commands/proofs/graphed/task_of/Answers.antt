use Rattle.sp_commands.specs.Graph.{faulty_returns}
use Rattle.std.proofs.Common.{inr}
use Rattle.sp_commands.proofs.Graphing.{first_faulty, second_faulty}
use Rattle.sp_commands.proofs.graphed.task_of.Goals as goal

pub returns-in-Err-clause-refused : goal.returns-in-Err-clause-refused
returns-in-Err-clause-refused c = first_faulty _ c.args.second.now c.args.returns.now c.in-Err.refusal _ c.status_of_refusal.ensures c.in-Err.ensures.refused

pub returns-in-Err-second_plan-clause-refused : goal.returns-in-Err-second_plan-clause-refused
returns-in-Err-second_plan-clause-refused c =
    second_faulty _ c.args.second.now c.args.returns.now c.in-Ok.plan c.in-Ok.ensures.plan c.in-Err-second_plan.refusal _ c.status_of_second.ensures c.in-Err-second_plan.ensures.refused

pub returns-clause-refused : goal.returns-clause-refused
returns-clause-refused c =
    inr ((λ e. cc e), (λ b e. faulty_returns c.in-Ok.plan c.in-Ok-second_plan.plan c.in-Err-Fault.code c.in-Err-Fault.place c.in-Ok.ensures.plan c.in-Ok-second_plan.ensures.plan (rw c.in-Err-Fault.field-0-is at c.in-Err-Fault.ensures.refused)))
