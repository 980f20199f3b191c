use Rattle.std.proofs.Common.{ℕ, List, map, sym, subst}
use Rattle.std.specs.Prelude.{string_bytes}
use Rattle.std.specs.List.{Contains}
use Rattle.sp_load.specs.Places.{Place}
use Rattle.sp_answer.specs.Outcome.{ending}
use Rattle.sp_answer.specs.Promise.{Filed, filed, Served}
use Rattle.sp_answer.specs.Ran.{Outside, outside}
use Rattle.sp_cli.specs.Commands.{graph, speed_seen}
use Rattle.sp_commands.specs.Commands.{files_at}
use Rattle.sp_commands.specs.Graph.{GraphOutcome}
use Rattle.sp_commands.specs.Outcome.{Answers}
use Rattle.sp_top.specs.declared.workshop.CommandEnd.{CommandEnd}
use Rattle.sp_top.proofs.Answered.{answers, no_call, refused}
use Rattle.sp_top.proofs.Chosen.{chosen, not_chosen}
use Rattle.sp_top.proofs.top.carry_graph.Goals as goal

pub returns-in-Some-clause-answers : goal.returns-in-Some-clause-answers
returns-in-Some-clause-answers g c words is =
    let predictors : List (List ℕ) = map (λ one. (goal.Predictor-dyn g (one.vtable, one.value)).named one.value) c.args.predictors.items in
    let before : Filed = filed (g.F.Files.held c.args.files.now) (g.F.Files.faults c.args.files.now) in
    let after : Filed = filed (g.F.Files.held c.graph.new.files) (g.F.Files.faults c.graph.new.files) in
    let old : Outside = outside (g.S.Source.state c.args.input.now) (g.K.Sink.state c.args.out.now) in
    let new : Outside = outside (g.S.Source.state c.graph.new.input) (g.K.Sink.state c.graph.new.out) in
    let asked = c.args.asked in
    let second = asked.texts.second.now in
    let returns = asked.texts.returns.now in
    let there : Contains predictors (string_bytes asked.speed.now.predictor) = (chosen _ _ c.args.predictors.items c.in-Some.crew.first c.in-Some.ensures.first).1 in
    let served = subst (λ (p : Place). Served (files_at p) (GraphOutcome p second returns) before after old new (ending c.graph.result)) is.place c.graph.ensures in
    subst (λ (a : CommandEnd _ _). Answers predictors words before after old new a.status) (sym c.of.ensures)
    (answers predictors words (graph is.query second returns (speed_seen asked.speed.now)) (is.is, there) before after old new c.graph.result served)

pub returns-in-None-clause-answers : goal.returns-in-None-clause-answers
returns-in-None-clause-answers g c words is =
    let predictors : List (List ℕ) = map (λ one. (goal.Predictor-dyn g (one.vtable, one.value)).named one.value) c.args.predictors.items in
    let before : Filed = filed (g.F.Files.held c.args.files.now) (g.F.Files.faults c.args.files.now) in
    let old : Outside = outside (g.S.Source.state c.args.input.now) (g.K.Sink.state c.args.out.now) in
    let asked = c.args.asked in
    let none : Contains predictors (string_bytes asked.speed.now.predictor) → ⊥ = λ at. not_chosen _ _ c.args.predictors.items c.in-None.ensures.first at in
    subst (λ (a : CommandEnd _ _). Answers predictors words before before old old a.status) (sym c.of-in-None.ensures)
    (refused predictors words (no_call predictors words (graph is.query asked.texts.second.now asked.texts.returns.now (speed_seen asked.speed.now)) is.is none) before old)
