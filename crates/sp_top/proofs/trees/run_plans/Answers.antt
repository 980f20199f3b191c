use Rattle.std.proofs.Common.{refl}
use Rattle.std.specs.Arc.{arc_value}
use Rattle.sp_answer.specs.Ran.{Outside, outside}
use Rattle.sp_commands.specs.Commands.{lateness}
use Rattle.sp_commands.specs.Ends.{came_within}
use Rattle.sp_commands.specs.Run.{text_by}
use Rattle.sp_commands.proofs.ReadAndWritten.{ran_written}
use Rattle.sp_commands.proofs.Running.{unread}
use Rattle.sp_top.proofs.trees.run_plans.Goals as goal

pub returns-in_default : goal.returns-in_default
returns-in_default g c =
    let q = arc_value c.args.plans.plan in
    let l = lateness c.args.asked.manner.late.slack c.args.asked.manner.late.rule in
    let brings = c.read_events.ensures in
    let old : Outside = outside (g.S.Source.state c.args.input.now) (g.K.Sink.state c.args.out.now) in
    let new : Outside = outside (g.S.Source.state c.read_events.new.input) (g.K.Sink.state c.args.out.now) in
    unread (came_within q l) (text_by c.args.asked.proof q) old new brings.taken brings.gave brings.no_further refl

pub returns : goal.returns
returns g c =
    let q = arc_value c.args.plans.plan in
    let l = lateness c.args.asked.manner.late.slack c.args.asked.manner.late.rule in
    let old : Outside = outside (g.S.Source.state c.args.input.now) (g.K.Sink.state c.args.out.now) in
    let new : Outside = outside (g.S.Source.state c.read_events.new.input) (g.K.Sink.state c.tell_parts-written.new.out) in
    ran_written (text_by c.args.asked.proof) q l old new c.in-Ok.given c.in-Ok.ensures c.tell_parts-written.result c.tell_parts-written.ensures c.written_status.result c.written_status.ensures
