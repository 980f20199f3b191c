use Rattle.std.proofs.Common.{Err, ap}
use Rattle.sp_load.specs.Places.{place_of}
use Rattle.sp_answer.specs.Promise.{Filed, filed}
use Rattle.sp_answer.specs.Ran.{Outside, outside}
use Rattle.sp_commands.specs.Commands.{lateness}
use Rattle.sp_commands.specs.Run.{windows_text}
use Rattle.sp_commands.proofs.Running.{ran_served, refused_served}
use Rattle.sp_commands.proofs.windowed.plain.Goals as goal

pub returns-in-Ok : goal.returns-in-Ok
returns-in-Ok g c =
    let before : Filed = filed (g.F.Files.held c.args.files.now) (g.F.Files.faults c.args.files.now) in
    let after : Filed = filed (g.F.Files.held c.plan_at.new.files) (g.F.Files.faults c.plan_at.new.files) in
    let old : Outside = outside (g.S.Source.state c.args.input.now) (g.K.Sink.state c.args.out.now) in
    let new : Outside = outside (g.S.Source.state c.run_plan.new.input) (g.K.Sink.state c.run_plan.new.out) in
    ran_served windows_text (place_of c.args.place) (lateness c.args.late.slack c.args.late.rule) before after old c.plan_at.ensures.held new c.in-Ok.plan c.run_plan.result c.in-Ok.ensures.plan (c.in-Ok.ensures.no_fault (λ e. cc)) c.run_plan.ensures

pub returns-in-Err : goal.returns-in-Err
returns-in-Err g c =
    let before : Filed = filed (g.F.Files.held c.args.files.now) (g.F.Files.faults c.args.files.now) in
    let after : Filed = filed (g.F.Files.held c.plan_at.new.files) (g.F.Files.faults c.plan_at.new.files) in
    let old : Outside = outside (g.S.Source.state c.args.input.now) (g.K.Sink.state c.args.out.now) in
    refused_served windows_text (place_of c.args.place) (lateness c.args.late.slack c.args.late.rule) before after old c.plan_at.ensures.held c.in-Err.refusal c.status_of_refusal.result c.status_of_refusal.ensures c.in-Err.ensures.refused
    (λ is. c.in-Err.ensures.fault (ap Err is)) (λ other. c.in-Err.ensures.no_fault (λ e. other cc))
