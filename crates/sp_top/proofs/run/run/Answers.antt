use Rattle.std.proofs.Common.{Err, ap, refl, sym, subst, ◌∙◌}
use Rattle.sp_load.specs.Places.{place_of}
use Rattle.sp_answer.specs.Outcome.{ending, number_of}
use Rattle.sp_answer.specs.Promise.{Filed, filed, Served}
use Rattle.sp_answer.specs.Ran.{Outside, outside}
use Rattle.sp_cli.specs.Commands.{speed_seen}
use Rattle.sp_commands.specs.Commands.{files_at, lateness}
use Rattle.sp_commands.specs.Run.{text_by, ToldOutcome}
use Rattle.sp_top.specs.Report.{ReportsPlace, WhereDone}
use Rattle.sp_top.specs.declared.workshop.CommandEnd.{CommandEnd}
use Rattle.sp_commands.proofs.Running.{ran_served, refused_served}
use Rattle.sp_top.proofs.Reporting.{of_place, refused_undone}
use Rattle.sp_top.specs.Prompt as p
use Rattle.sp_top.proofs.Prompt.{prompt_at}
use Rattle.sp_top.proofs.run.run.Goals as goal

pub returns-in-Ok-clause-served : goal.returns-in-Ok-clause-served
returns-in-Ok-clause-served g c =
    let before : Filed = filed (g.F.Files.held c.args.files.now) (g.F.Files.faults c.args.files.now) in
    let after : Filed = filed (g.F.Files.held c.plan_at.new.files) (g.F.Files.faults c.plan_at.new.files) in
    let old : Outside = outside (g.S.Source.state c.args.input.now) (g.K.Sink.state c.args.out.now) in
    let new : Outside = outside (g.S.Source.state c.tell_plan.new.input) (g.K.Sink.state c.tell_plan.new.out) in
    ran_served (text_by c.args.asked.proof) (place_of c.args.asked.place) (lateness c.args.asked.manner.late.slack c.args.asked.manner.late.rule) before after old c.plan_at.ensures.held new c.in-Ok.plan c.tell_plan.result.status c.in-Ok.ensures.plan (c.in-Ok.ensures.no_fault (λ e. cc)) c.tell_plan.ensures.ran

pub returns-in-Ok-clause-report : goal.returns-in-Ok-clause-report
returns-in-Ok-clause-report g c =
    of_place (g.F.Files.held c.args.files.now) (place_of c.args.asked.place) (lateness c.args.asked.manner.late.slack c.args.asked.manner.late.rule) (speed_seen c.args.asked.manner.speed.now) _ _ c.in-Ok.plan c.in-Ok.ensures.plan c.tell_plan.result.status c.tell_plan.result.ended c.tell_plan.ensures.report

pub returns-in-Err-clause-served : goal.returns-in-Err-clause-served
returns-in-Err-clause-served g c =
    let place = place_of c.args.asked.place in
    let l = lateness c.args.asked.manner.late.slack c.args.asked.manner.late.rule in
    let before : Filed = filed (g.F.Files.held c.args.files.now) (g.F.Files.faults c.args.files.now) in
    let after : Filed = filed (g.F.Files.held c.plan_at.new.files) (g.F.Files.faults c.plan_at.new.files) in
    let old : Outside = outside (g.S.Source.state c.args.input.now) (g.K.Sink.state c.args.out.now) in
    let served =
    refused_served (text_by c.args.asked.proof) place l before after old c.plan_at.ensures.held c.in-Err.refusal c.status_of_refusal.result c.status_of_refusal.ensures c.in-Err.ensures.refused
    (λ is. c.in-Err.ensures.fault (ap Err is)) (λ other. c.in-Err.ensures.no_fault (λ e. other cc)) in
    subst (λ (a : CommandEnd _ _). Served (files_at place) (ToldOutcome (text_by c.args.asked.proof) place l) before after old old (ending a.status)) (sym c.of.ensures) served

pub returns-in-Err-clause-report : goal.returns-in-Err-clause-report
returns-in-Err-clause-report g c =
    let left = (g.S.Source.state c.args.input.now).left in
    subst (λ (a : CommandEnd _ _). WhereDone (ReportsPlace (g.F.Files.held c.args.files.now) (place_of c.args.asked.place) (lateness c.args.asked.manner.late.slack c.args.asked.manner.late.rule) (speed_seen c.args.asked.manner.speed.now) left left) a.status a.ended) (sym c.of.ensures)
    (λ done. refused_undone c.in-Err.refusal (ap number_of (sym c.status_of_refusal.ensures) ∙ done))

pub returns-in-Ok-clause-prompt : goal.returns-in-Ok-clause-prompt
returns-in-Ok-clause-prompt g c lines = prompt_at (place_of c.args.asked.place) (lateness c.args.asked.manner.late.slack c.args.asked.manner.late.rule) (g.F.Files.held c.args.files.now) c.in-Ok.plan _ _ c.in-Ok.ensures.plan (c.tell_plan.ensures.prompt lines)

pub returns-in-Err-clause-prompt : goal.returns-in-Err-clause-prompt
returns-in-Err-clause-prompt g c lines = p.unread refl
