use Rattle.std.proofs.Common.{◌≡◌, List, [], true, refl, sym, subst, rules}
use Rattle.std.specs.Arc.{arc_value}
use Rattle.sp_plan.specs.declared.plan.Plan.{Plan}
use Rattle.sp_sched.specs.declared.step.TraceStep.{TraceStep}
use Rattle.sp_trace.specs.Traced.{traced}
use Rattle.sp_ports.specs.Stopping.{is_end}
use Rattle.sp_intake.proofs.Gave.{gave_none}
use Rattle.sp_answer.specs.Outcome.{ending}
use Rattle.sp_answer.specs.Ran.{Outside, outside, Ran}
use Rattle.sp_answer.specs.Written.{WritesText}
use Rattle.sp_answer.specs.declared.status.Status.TheVariants.{Memory}
use Rattle.sp_commands.specs.Ends.{came}
use Rattle.sp_commands.specs.Given.{came_of}
use Rattle.sp_commands.specs.Trace.{trace_text, IsPlanTrace}
use Rattle.sp_commands.proofs.Came.{IsTold, came_told, came_open}
use Rattle.sp_commands.proofs.Running.{IsReading, none_in_time, no_further_reading, reading_is, unread, written}
use Rattle.sp_commands.proofs.Tracing.{ended_writes}
use Rattle.sp_commands.proofs.scheduled.trace_task.Goals as goal

pub returns-in_default : goal.returns-in_default
returns-in_default g c =
    let task = c.args.task in
    let old : Outside = outside (g.S.Source.state c.args.input.now) (g.K.Sink.state c.args.out.now) in
    let way = came task.plan in
    unread way (trace_text c.args.live task.steps.items task.plan) old old [] (gave_none old.input.left) (none_in_time way (came_open task.plan [] refl)) refl

pub returns-in_default-in_time : goal.returns-in_default-in_time
returns-in_default-in_time g c =
    let task = c.args.task in
    let p = arc_value c.in-Ok.plan in
    let brings = c.in_time.ensures in
    let old : Outside = outside (g.S.Source.state c.args.input.now) (g.K.Sink.state c.args.out.now) in
    let new : Outside = outside (g.S.Source.state c.in_time.new.input) (g.K.Sink.state c.args.out.now) in
    subst (λ (q : Plan). Ran (IsPlanTrace q c.args.live task.steps.items) old new (ending Memory)) c.in-Ok.ensures
    (unread (came p) (trace_text c.args.live task.steps.items p) old new brings.taken brings.gave brings.no_further refl)

pub returns : goal.returns
returns g c =
    let task = c.args.task in
    let p = arc_value c.in-Ok.plan in
    let T = trace_text c.args.live task.steps.items p in
    let given = c.in-Ok-in_time.given in
    let brings = c.in-Ok-in_time.ensures in
    let old : Outside = outside (g.S.Source.state c.args.input.now) (g.K.Sink.state c.args.out.now) in
    let new : Outside = outside (g.S.Source.state c.in_time.new.input) (g.K.Sink.state c.print_trace-written.new.out) in
    let ended : is_end given.stop ≡ true = search rules in
    let raw = subst (λ (xs : List TraceStep). WritesText (traced p c.args.live given.events.items xs) old.out new.out c.print_trace-written.result) c.deref.ensures.value c.print_trace-written.ensures in
    let writes = ended_writes c.args.live task.steps.items p given.events.items given.stop old.out new.out c.print_trace-written.result ended raw in
    subst (λ (q : Plan). Ran (IsPlanTrace q c.args.live task.steps.items) old new (ending c.written_status.result)) c.in-Ok.ensures
    (written (IsReading (came p) T) old new brings.taken brings.gave (no_further_reading (came p) T brings.taken brings.no_further) (came_of given) (T given.events.items given.stop)
    (reading_is (came p) T brings.taken new.input.ended (came_of given) brings.is)
    (subst (IsTold new.input.ended) (sym brings.is) (came_told p brings.taken new.input.ended)) brings.fault brings.told c.print_trace-written.result writes c.written_status.result c.written_status.ensures)
