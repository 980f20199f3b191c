use denote.Param.Send.{sendable}
use Rattle.std.proofs.Common.{◌∙◌, ℕ, sym, ap, subst}
use Rattle.sp_intake.specs.Asked.{standing}
use Rattle.sp_intake.proofs.Crossing.{input_sent}
use Rattle.sp_intake.specs.Loose.{Lateness}
use Rattle.sp_answer.specs.Outcome.{ending, number_of}
use Rattle.sp_answer.specs.Ran.{outside, Ran}
use Rattle.sp_answer.specs.declared.status.Status.{Status}
use Rattle.sp_split.specs.declared.ended.Went.{Went}
use Rattle.sp_cli.specs.Commands.{speed_seen}
use Rattle.sp_commands.specs.Commands.{lateness}
use Rattle.sp_top.specs.RunEnds.{status_of_end}
use Rattle.sp_commands.specs.Run.{IsPlanRun}
use Rattle.sp_top.specs.declared.workshop.CommandEnd.{CommandEnd}
use Rattle.sp_top.proofs.Driven.{outlet, ended_ran, fell_short}
use Rattle.sp_top.proofs.Reporting.{reports_plan}
use Rattle.sp_top.proofs.Prompt.{in_time}
use Rattle.sp_top.proofs.run.drive_core.Goals as goal

pub drive-requires-send-I : goal.drive-requires-send-I
drive-requires-send-I g c κs within = search (input_sent, sendable) depth 20

pub returns-in-Ok-clause-ran : goal.returns-in-Ok-clause-ran
returns-in-Ok-clause-ran g c origin reads =
    let q = c.args.core.plan in
    let l : Lateness = lateness c.args.manner.late.slack c.args.manner.late.rule in
    let old = c.args.input.now in
    let new = c.drive.new.intake in
    let first = standing (g.S.Source.state old.source.now) old.events in
    let last = standing (g.S.Source.state new.source.now) new.events in
    let before = g.K.Sink.state c.args.lines.now.out.now in
    let after = g.K.Sink.state c.drive.new.outlet.out.now in
    let went : Went = record { core = c.in-Ok.ended.core; why = c.in-Ok.ended.why } in
    let ran =
    ended_ran c.args.core l c.growth.ensures c.requires.compiled origin first last reads old.events.stops new.events.stops
    before after c.args.lines.now.taken c.drive.new.outlet.taken
    went c.in-Ok.ensures.ended c.steps_lead_to.ensures.reached.sequential in
    subst (λ (s : Status). Ran (IsPlanRun q l) (outside origin before) (outside last.source after) (ending s))
    (sym (c.status_of_end-status.ensures ∙ ap (λ (n : ℕ). status_of_end l.rule n c.in-Ok.ended.why) c.late.ensures)) ran

pub returns-in-Ok-clause-report : goal.returns-in-Ok-clause-report
returns-in-Ok-clause-report g c origin reads done =
    let l : Lateness = lateness c.args.manner.late.slack c.args.manner.late.rule in
    let old = c.args.input.now in
    let new = c.drive.new.intake in
    let first = standing (g.S.Source.state old.source.now) old.events in
    let last = standing (g.S.Source.state new.source.now) new.events in
    let before = g.K.Sink.state c.args.lines.now.out.now in
    let after = g.K.Sink.state c.drive.new.outlet.out.now in
    reports_plan c.args.core l origin first last reads old.events.stops new.events.stops
    (outlet before c.args.lines.now.taken) (outlet after c.drive.new.outlet.taken)
    (speed_seen c.args.manner.speed.now) c.in-Ok.ended c.in-Ok.ensures.ended c.requires.bound c.steps_lead_to.ensures.replays c.in-Ok.ensures.about c.in-Ok.ensures.asked
    (ap number_of (sym (c.status_of_end-status.ensures ∙ ap (λ (n : ℕ). status_of_end l.rule n c.in-Ok.ended.why) c.late.ensures)) ∙ done)

pub returns-in-Err-clause-ran : goal.returns-in-Err-clause-ran
returns-in-Err-clause-ran g c origin reads =
    let l : Lateness = lateness c.args.manner.late.slack c.args.manner.late.rule in
    let old = c.args.input.now in
    let new = c.drive.new.intake in
    let first = standing (g.S.Source.state old.source.now) old.events in
    let last = standing (g.S.Source.state new.source.now) new.events in
    let before = g.K.Sink.state c.args.lines.now.out.now in
    let after = g.K.Sink.state c.drive.new.outlet.out.now in
    let ran =
    fell_short c.args.core l c.growth.ensures c.requires.compiled origin first last reads before after c.args.lines.now.taken c.drive.new.outlet.taken c.in-Err.ensures.short in
    subst (λ (a : CommandEnd _ _). Ran (IsPlanRun c.args.core.plan l) (outside origin before) (outside last.source after) (ending a.status)) (sym c.of.ensures) ran

pub returns-in-Ok-clause-prompt : goal.returns-in-Ok-clause-prompt
returns-in-Ok-clause-prompt g c origin asks =
    let l : Lateness = lateness c.args.manner.late.slack c.args.manner.late.rule in
    let old = c.args.input.now in
    let new = c.drive.new.intake in
    let p = c.drive.ensures.prompt in
    in_time c.args.core.plan l origin (standing (g.S.Source.state old.source.now) old.events) (standing (g.S.Source.state new.source.now) new.events) (g.K.Sink.state c.args.lines.now.out.now)
    (g.K.Sink.state c.drive.new.outlet.out.now) c.args.lines.now.taken c.drive.new.outlet.taken p.behind.before p.events asks p.behind.asked p.behind.took

pub returns-in-Err-clause-prompt : goal.returns-in-Err-clause-prompt
returns-in-Err-clause-prompt g c origin asks =
    let l : Lateness = lateness c.args.manner.late.slack c.args.manner.late.rule in
    let old = c.args.input.now in
    let new = c.drive.new.intake in
    let p = c.drive.ensures.prompt in
    in_time c.args.core.plan l origin (standing (g.S.Source.state old.source.now) old.events) (standing (g.S.Source.state new.source.now) new.events) (g.K.Sink.state c.args.lines.now.out.now)
    (g.K.Sink.state c.drive.new.outlet.out.now) c.args.lines.now.taken c.drive.new.outlet.taken p.behind.before p.events asks p.behind.asked p.behind.took
