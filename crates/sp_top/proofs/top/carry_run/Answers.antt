use Rattle.std.proofs.Common.{◌≡◌, ◌≤◌, ℕ, List, map, length, ap, refl, subst, sym, arith}
use Rattle.std.specs.Prelude.{string_bytes}
use Rattle.std.specs.List.{Contains}
use Rattle.sp_load.specs.Places.{Place}
use Rattle.sp_answer.specs.Outcome.{ending}
use Rattle.sp_answer.specs.Promise.{Filed, filed, Served}
use Rattle.sp_answer.specs.Ran.{Outside, outside}
use Rattle.sp_cli.specs.Commands.{run, speed_seen}
use Rattle.sp_commands.specs.Commands.{files_at, lateness, IsCall, IsCommand}
use Rattle.sp_commands.specs.Outcome.{Answers}
use Rattle.sp_commands.specs.Run.{text_by, RunOutcome, ToldOutcome}
use Rattle.sp_top.specs.declared.workshop.CommandEnd.{CommandEnd}
use Rattle.sp_top.proofs.Answered.{answers, no_call, refused}
use Rattle.sp_top.proofs.Chosen.{at_least, chosen, not_chosen, enough, not_enough}
use Rattle.sp_top.proofs.Reporting.{reports_none, reports_run}
use Rattle.sp_top.specs.Prompt.{IsPrompt}
use Rattle.sp_top.proofs.Prompt.{run_promptly, several_run, unread_promptly}
use Rattle.sp_top.proofs.top.carry_run.Goals as goal

pub returns-in-Some-clause-answers : goal.returns-in-Some-clause-answers
returns-in-Some-clause-answers g c words is =
    let predictors : List (List ℕ) = map (λ one. (goal.Predictor-dyn g (one.vtable, one.value)).named one.value) c.args.predictors.items in
    let before : Filed = filed (g.F.Files.held c.args.files.now) (g.F.Files.faults c.args.files.now) in
    let after : Filed = filed (g.F.Files.held c.run_by_parts.new.files) (g.F.Files.faults c.run_by_parts.new.files) in
    let old : Outside = outside (g.S.Source.state c.args.input.now) (g.K.Sink.state c.args.out.now) in
    let new : Outside = outside (g.S.Source.state c.run_by_parts.new.input) (g.K.Sink.state c.run_by_parts.new.out) in
    let asked = c.args.asked in
    let l = lateness asked.manner.late.slack asked.manner.late.rule in
    let there = enough _ _ asked.trees c.args.predictors.items c.in-Some.chosen.items c.in-Some.ensures.chosen in
    let served = subst (λ (p : Place). Served (files_at p) (ToldOutcome (text_by asked.proof) p l) before after old new (ending c.run_by_parts.result)) is.place c.run_by_parts.ensures in
    subst (λ (a : CommandEnd _ _). Answers predictors words before after old new a.status) (sym c.of.ensures)
    (answers predictors words (run is.query (speed_seen asked.manner.speed.now) asked.manner.late.slack asked.manner.late.rule asked.trees asked.proof) (is.is, there) before after old new c.run_by_parts.result served)

pub returns-in-None-clause-answers : goal.returns-in-None-clause-answers
returns-in-None-clause-answers g c words is =
    let predictors : List (List ℕ) = map (λ one. (goal.Predictor-dyn g (one.vtable, one.value)).named one.value) c.args.predictors.items in
    let before : Filed = filed (g.F.Files.held c.args.files.now) (g.F.Files.faults c.args.files.now) in
    let old : Outside = outside (g.S.Source.state c.args.input.now) (g.K.Sink.state c.args.out.now) in
    let asked = c.args.asked in
    let none = not_enough _ _ asked.trees c.args.predictors.items c.in-None.ensures.chosen in
    subst (λ (a : CommandEnd _ _). Answers predictors words before before old old a.status) (sym c.of-in-None.ensures)
    (refused predictors words (no_call predictors words (run is.query (speed_seen asked.manner.speed.now) asked.manner.late.slack asked.manner.late.rule asked.trees asked.proof) is.is none) before old)

pub returns-in-Some-clause-report : goal.returns-in-Some-clause-report
returns-in-Some-clause-report g c words is =
    let predictors : List (List ℕ) = map (λ one. (goal.Predictor-dyn g (one.vtable, one.value)).named one.value) c.args.predictors.items in
    let held = g.F.Files.held c.args.files.now in
    let old = (g.S.Source.state c.args.input.now).left in
    let new = (g.S.Source.state c.run_by_parts.new.input).left in
    let asked = c.args.asked in
    reports_none predictors words held old new is.query (speed_seen asked.manner.speed.now) asked.manner.late.slack asked.manner.late.rule asked.trees asked.proof (search arith) is.is
    c.of.result.status c.of.result.ended (ap (λ (a : CommandEnd _ _). a.ended) c.of.ensures)

pub returns-in-Some-clause-prompt : goal.returns-in-Some-clause-prompt
returns-in-Some-clause-prompt g c words is =
    let asked = c.args.asked in
    several_run words (g.F.Files.held c.args.files.now) _ _ is.query (speed_seen asked.manner.speed.now) asked.manner.late.slack asked.manner.late.rule asked.trees asked.proof (search arith) is.is

pub returns-in-None-clause-prompt : goal.returns-in-None-clause-prompt
returns-in-None-clause-prompt g c words is =
    let old : Outside = outside (g.S.Source.state c.args.input.now) (g.K.Sink.state c.args.out.now) in
    unread_promptly words (g.F.Files.held c.args.files.now) old old refl

pub returns-in-Some-crew_of-clause-answers : goal.returns-in-Some-crew_of-clause-answers
returns-in-Some-crew_of-clause-answers g c words is =
    let predictors : List (List ℕ) = map (λ one. (goal.Predictor-dyn g (one.vtable, one.value)).named one.value) c.args.predictors.items in
    let before : Filed = filed (g.F.Files.held c.args.files.now) (g.F.Files.faults c.args.files.now) in
    let after : Filed = filed (g.F.Files.held c.run.new.files) (g.F.Files.faults c.run.new.files) in
    let old : Outside = outside (g.S.Source.state c.args.input.now) (g.K.Sink.state c.args.out.now) in
    let new : Outside = outside (g.S.Source.state c.run.new.input) (g.K.Sink.state c.run.new.out) in
    let asked = c.args.asked in
    let l = lateness asked.manner.late.slack asked.manner.late.rule in
    let there : Contains predictors (string_bytes asked.manner.speed.now.predictor) = (chosen _ _ c.args.predictors.items c.in-Some-crew_of.crew.first c.in-Some-crew_of.ensures.first).1 in
    let some : asked.trees ≤ length predictors = at_least asked.trees predictors (string_bytes asked.manner.speed.now.predictor) there (search arith) in
    let served = subst (λ (p : Place). Served (files_at p) (ToldOutcome (text_by asked.proof) p l) before after old new (ending c.run.result.status)) is.place c.run.ensures.served in
    answers predictors words (run is.query (speed_seen asked.manner.speed.now) asked.manner.late.slack asked.manner.late.rule asked.trees asked.proof) (is.is, (there, some)) before after old new c.run.result.status served

pub returns-in-Some-crew_of-clause-report : goal.returns-in-Some-crew_of-clause-report
returns-in-Some-crew_of-clause-report g c words is =
    let predictors : List (List ℕ) = map (λ one. (goal.Predictor-dyn g (one.vtable, one.value)).named one.value) c.args.predictors.items in
    let asked = c.args.asked in
    let speed = speed_seen asked.manner.speed.now in
    let slack = asked.manner.late.slack in
    let late = asked.manner.late.rule in
    let there : Contains predictors (string_bytes asked.manner.speed.now.predictor) = (chosen _ _ c.args.predictors.items c.in-Some-crew_of.crew.first c.in-Some-crew_of.ensures.first).1 in
    let some : asked.trees ≤ length predictors = at_least asked.trees predictors (string_bytes asked.manner.speed.now.predictor) there (search arith) in
    let one : asked.trees ≡ 1 = search arith in
    let call = subst (λ (n : ℕ). IsCall predictors words (run is.query speed slack late n asked.proof)) one (is.is, (there, some)) in
    reports_run predictors words (g.F.Files.held c.args.files.now) (g.S.Source.state c.args.input.now).left (g.S.Source.state c.run.new.input).left
    is.query speed slack late asked.proof call _ is.place _ refl c.run.result.status c.run.result.ended c.run.ensures.report

pub returns-in-Some-crew_of-clause-prompt : goal.returns-in-Some-crew_of-clause-prompt
returns-in-Some-crew_of-clause-prompt g c words is =
    let old : Outside = outside (g.S.Source.state c.args.input.now) (g.K.Sink.state c.args.out.now) in
    let new : Outside = outside (g.S.Source.state c.run.new.input) (g.K.Sink.state c.run.new.out) in
    let asked = c.args.asked in
    let speed = speed_seen asked.manner.speed.now in
    let slack = asked.manner.late.slack in
    let late = asked.manner.late.rule in
    let held = g.F.Files.held c.args.files.now in
    let one : asked.trees ≡ 1 = search arith in
    run_promptly words held old new is.query speed slack late asked.proof (subst (λ (n : ℕ). IsCommand words (run is.query speed slack late n asked.proof)) one is.is)
    (λ lines. subst (λ (p : Place). IsPrompt (RunOutcome p (lateness slack late) held) old new) is.place (c.run.ensures.prompt lines))

pub returns-in-None-crew_of-clause-answers : goal.returns-in-None-crew_of-clause-answers
returns-in-None-crew_of-clause-answers g c words is =
    let predictors : List (List ℕ) = map (λ one. (goal.Predictor-dyn g (one.vtable, one.value)).named one.value) c.args.predictors.items in
    let before : Filed = filed (g.F.Files.held c.args.files.now) (g.F.Files.faults c.args.files.now) in
    let old : Outside = outside (g.S.Source.state c.args.input.now) (g.K.Sink.state c.args.out.now) in
    let asked = c.args.asked in
    let none : Contains predictors (string_bytes asked.manner.speed.now.predictor) × (asked.trees ≤ length predictors) → ⊥ = λ at. not_chosen _ _ c.args.predictors.items c.in-None-crew_of.ensures.first at.0 in
    subst (λ (a : CommandEnd _ _). Answers predictors words before before old old a.status) (sym c.of-in-None-crew_of.ensures)
    (refused predictors words (no_call predictors words (run is.query (speed_seen asked.manner.speed.now) asked.manner.late.slack asked.manner.late.rule asked.trees asked.proof) is.is none) before old)
