use Rattle.std.proofs.Common.{Err, ap}
use Rattle.std.specs.Arc.{arc_value}
use Rattle.sp_load.specs.Places.{place_of}
use Rattle.sp_answer.specs.Promise.{Filed, filed}
use Rattle.sp_answer.specs.Ran.{Outside, outside}
use Rattle.sp_commands.specs.Commands.{lateness}
use Rattle.sp_commands.specs.Run.{text_by}
use Rattle.sp_commands.proofs.Running.{ran_served, refused_served}
use Rattle.sp_top.proofs.trees.run_by_parts.Goals as goal

pub returns-in-Ok : goal.returns-in-Ok
returns-in-Ok g c =
    let before : Filed = filed (g.F.Files.held c.args.files.now) (g.F.Files.faults c.args.files.now) in
    let after : Filed = filed (g.F.Files.held c.plans_at.new.files) (g.F.Files.faults c.plans_at.new.files) in
    let old : Outside = outside (g.S.Source.state c.args.input.now) (g.K.Sink.state c.args.out.now) in
    let new : Outside = outside (g.S.Source.state c.run_plans.new.input) (g.K.Sink.state c.run_plans.new.out) in
    ran_served (text_by c.args.asked.proof) (place_of c.args.asked.place) (lateness c.args.asked.manner.late.slack c.args.asked.manner.late.rule) before after old c.plans_at.ensures.held new (arc_value c.in-Ok.plans.plan) c.run_plans.result c.in-Ok.ensures.plan (c.in-Ok.ensures.no_fault (λ e. cc)) c.run_plans.ensures

pub returns-in-Err : goal.returns-in-Err
returns-in-Err g c =
    let before : Filed = filed (g.F.Files.held c.args.files.now) (g.F.Files.faults c.args.files.now) in
    let after : Filed = filed (g.F.Files.held c.plans_at.new.files) (g.F.Files.faults c.plans_at.new.files) in
    let old : Outside = outside (g.S.Source.state c.args.input.now) (g.K.Sink.state c.args.out.now) in
    refused_served (text_by c.args.asked.proof) (place_of c.args.asked.place) (lateness c.args.asked.manner.late.slack c.args.asked.manner.late.rule) before after old c.plans_at.ensures.held c.in-Err.refusal c.status_of_refusal.result c.status_of_refusal.ensures c.in-Err.ensures.refused
    (λ is. c.in-Err.ensures.fault (ap Err is)) (λ other. c.in-Err.ensures.no_fault (λ e. other cc))
