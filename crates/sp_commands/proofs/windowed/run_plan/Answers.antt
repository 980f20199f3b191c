use Rattle.std.proofs.Common.{[], refl, subst}
use Rattle.std.specs.Arc.{arc_value}
use Rattle.sp_plan.specs.declared.plan.Plan.{Plan}
use Rattle.sp_intake.proofs.Gave.{gave_none}
use Rattle.sp_answer.specs.Outcome.{ending}
use Rattle.sp_answer.specs.Ran.{Outside, outside, Ran}
use Rattle.sp_answer.specs.declared.status.Status.TheVariants.{Memory}
use Rattle.sp_commands.specs.Commands.{lateness}
use Rattle.sp_commands.specs.Ends.{came_within}
use Rattle.sp_commands.specs.Run.{windows_text, IsPlanRun}
use Rattle.sp_commands.proofs.Came.{within_open}
use Rattle.sp_commands.proofs.ReadAndWritten.{ran_written}
use Rattle.sp_commands.proofs.Running.{none_in_time, unread}
use Rattle.sp_commands.proofs.windowed.run_plan.Goals as goal

pub returns-in_default : goal.returns-in_default
returns-in_default g c =
    let q = c.args.plan in
    let l = lateness c.args.late.slack c.args.late.rule in
    let state = g.S.Source.state c.args.input.now in
    let old : Outside = outside state (g.K.Sink.state c.args.out.now) in
    unread (came_within q l) (windows_text q) old old [] (gave_none state.left) (none_in_time (came_within q l) (within_open q l [] refl)) refl

pub returns-in_default-read_events : goal.returns-in_default-read_events
returns-in_default-read_events g c =
    let l = lateness c.args.late.slack c.args.late.rule in
    let p = arc_value c.in-Ok.plan in
    let brings = c.read_events.ensures in
    let old : Outside = outside (g.S.Source.state c.args.input.now) (g.K.Sink.state c.args.out.now) in
    let new : Outside = outside (g.S.Source.state c.read_events.new.input) (g.K.Sink.state c.args.out.now) in
    subst (λ (q : Plan). Ran (IsPlanRun q l) old new (ending Memory)) c.in-Ok.ensures (unread (came_within p l) (windows_text p) old new brings.taken brings.gave brings.no_further refl)

pub returns : goal.returns
returns g c =
    let l = lateness c.args.late.slack c.args.late.rule in
    let p = arc_value c.in-Ok.plan in
    let old : Outside = outside (g.S.Source.state c.args.input.now) (g.K.Sink.state c.args.out.now) in
    let new : Outside = outside (g.S.Source.state c.read_events.new.input) (g.K.Sink.state c.write_windows-written.new.out) in
    subst (λ (q : Plan). Ran (IsPlanRun q l) old new (ending c.written_status.result)) c.in-Ok.ensures
    (ran_written windows_text p l old new c.in-Ok-read_events.given c.in-Ok-read_events.ensures c.write_windows-written.result c.write_windows-written.ensures c.written_status.result c.written_status.ensures)
