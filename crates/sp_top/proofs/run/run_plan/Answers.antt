use Rattle.std.proofs.Common.{rules, ◌≡◌, [], refl, sym, subst, ap}
use Rattle.sp_plan.specs.declared.plan.Plan.{Plan}
use Rattle.sp_core.specs.Running.{Running}
use Rattle.sp_intake.specs.Asked.{standing}
use Rattle.sp_intake.specs.Loose.{Lateness}
use Rattle.sp_intake.proofs.Gave.{gave_none}
use Rattle.sp_answer.specs.Outcome.{ending}
use Rattle.sp_answer.specs.Ran.{Outside, outside, Ran}
use Rattle.sp_cli.specs.Commands.{speed_seen}
use Rattle.sp_commands.specs.Run.{windows_text, IsPlanRun}
use Rattle.sp_top.specs.declared.workshop.CommandEnd.{CommandEnd}
use Rattle.sp_commands.specs.Commands.{lateness}
use Rattle.sp_commands.specs.Ends.{came_within}
use Rattle.sp_commands.proofs.Came.{within_open}
use Rattle.sp_commands.proofs.Running.{none_in_time, unread}
use Rattle.sp_top.specs.Coming.{AsksInTime, ComesFrom}
use Rattle.sp_top.proofs.Driven.{as_run}
use Rattle.sp_top.proofs.Reporting.{as_report}
use Rattle.sp_top.specs.Prompt as p
use Rattle.sp_top.proofs.Prompt.{prompt_as}
use Rattle.sp_top.proofs.run.run_plan.Goals as goal

pub returns-in_default-clause-ran : goal.returns-in_default-clause-ran
returns-in_default-clause-ran g c =
    let q = c.args.plan in
    let l : Lateness = lateness c.args.manner.late.slack c.args.manner.late.rule in
    let state = g.S.Source.state c.args.input.now in
    let old : Outside = outside state (g.K.Sink.state c.args.out.now) in
    subst (λ (a : CommandEnd _ _). Ran (IsPlanRun q l) old old (ending a.status)) (sym c.of.ensures)
    (unread (came_within q l) (windows_text q) old old [] (gave_none state.left) (none_in_time (came_within q l) (within_open q l [] refl)) refl)

pub returns-clause-ran : goal.returns-clause-ran
returns-clause-ran g c =
    let q = c.args.plan in
    let l : Lateness = lateness c.args.manner.late.slack c.args.manner.late.rule in
    let origin = g.S.Source.state c.args.input.now in
    let made = c.over-reading.result in
    let first = standing (g.S.Source.state made.source.now) made.events in
    let core_is : c.in-Ok.start.core.plan ≡ q = ap (λ (core : Running). core.plan) c.in-Ok.ensures.core in
    let from : ComesFrom q l origin first = rw (c.over-reading.ensures.events, c.over-reading.ensures.source) (c.in-Ok.ensures.fresh origin c.requires.not_ended) in
    let ran = c.drive_core-answer.ensures.ran origin (subst (λ (p : Plan). ComesFrom p l origin first) (sym core_is) from) in
    as_run l c.args.plan c.in-Ok.start.core.plan core_is _ _ _ _ _ _ (search rules) (search rules) ran

pub returns-clause-report : goal.returns-clause-report
returns-clause-report g c =
    let q = c.args.plan in
    let l : Lateness = lateness c.args.manner.late.slack c.args.manner.late.rule in
    let origin = g.S.Source.state c.args.input.now in
    let made = c.over-reading.result in
    let first = standing (g.S.Source.state made.source.now) made.events in
    let core_is : c.in-Ok.start.core.plan ≡ q = ap (λ (core : Running). core.plan) c.in-Ok.ensures.core in
    let from : ComesFrom q l origin first = rw (c.over-reading.ensures.events, c.over-reading.ensures.source) (c.in-Ok.ensures.fresh origin c.requires.not_ended) in
    let report = c.drive_core-answer.ensures.report origin (subst (λ (p : Plan). ComesFrom p l origin first) (sym core_is) from) in
    as_report l c.args.plan c.in-Ok.start.core.plan core_is (speed_seen c.args.manner.speed.now) origin.left _ _ (search rules) _ _ report

pub returns-in_default-clause-prompt : goal.returns-in_default-clause-prompt
returns-in_default-clause-prompt g c = p.unread refl

pub returns-clause-prompt : goal.returns-clause-prompt
returns-clause-prompt g c =
    let q = c.args.plan in
    let l : Lateness = lateness c.args.manner.late.slack c.args.manner.late.rule in
    let origin = g.S.Source.state c.args.input.now in
    let made = c.over-reading.result in
    let first = standing (g.S.Source.state made.source.now) made.events in
    let core_is : c.in-Ok.start.core.plan ≡ q = ap (λ (core : Running). core.plan) c.in-Ok.ensures.core in
    let asks : AsksInTime q l origin first = rw (c.over-reading.ensures.events, c.over-reading.ensures.source) (c.in-Ok.ensures.unasked origin c.requires.not_ended) in
    let prompt = c.drive_core-answer.ensures.prompt origin (subst (λ (p : Plan). AsksInTime p l origin first) (sym core_is) asks) in
    prompt_as l c.args.plan c.in-Ok.start.core.plan core_is _ _ _ _ _ (search rules) (search rules) prompt
