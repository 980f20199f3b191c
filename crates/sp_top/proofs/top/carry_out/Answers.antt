use Rattle.std.proofs.Common.{◌≡◌, ℕ, ℤ, List, map, ap, refl, subst, sym, rules}
use Rattle.std.specs.Prelude.{string_bytes}
use Rattle.std.specs.List.{Contains}
use Rattle.sp_load.specs.Places.{Place}
use Rattle.sp_load.specs.Places as found
use Rattle.sp_answer.specs.Promise.{Filed, filed}
use Rattle.sp_answer.specs.Ran.{Outside, outside}
use Rattle.sp_cli.specs.Limits.{IsWithin}
use Rattle.sp_cli.specs.Commands.{QuerySource, run, drill, graph, source_seen, speed_seen, seen}
use Rattle.sp_commands.specs.Commands.{place_of, IsCommand}
use Rattle.sp_commands.specs.Outcome.{Answers}
use Rattle.sp_top.specs.Asked.{IsGraphOf, IsRunOf}
use Rattle.sp_top.specs.Predictors.{AsksNoPredictor}
use Rattle.sp_top.specs.declared.asked.GraphRun.{GraphRun}
use Rattle.sp_top.specs.declared.asked.Run.{Run}
use Rattle.sp_top.specs.declared.workshop.CommandEnd.{CommandEnd}
use Rattle.sp_top.proofs.Answered.{answers_alone, itself_within, no_call, refused, drilled}
use Rattle.sp_top.proofs.Chosen.{chosen, not_chosen}
use Rattle.sp_top.proofs.Reporting.{reports_drill, reports_no, reports_nothing}
use Rattle.sp_top.proofs.Prompt.{alone_runs_not, no_run, unread_promptly}
use Rattle.sp_top.proofs.top.carry_out.Goals as goal

-- the words of a run that is kept so
of_run : (asked : Run) (query : QuerySource) (slack : ℤ) (words : List (List ℕ)) → found.place_of asked.place ≡ place_of query → asked.manner.late.slack ≡ slack
    → IsCommand words (run query (speed_seen asked.manner.speed.now) slack asked.manner.late.rule asked.trees asked.proof) → IsRunOf asked words
of_run asked query slack words at same own = record {
  query = query;
  place = at;
  is = subst (λ (s : ℤ). IsCommand words (run query (speed_seen asked.manner.speed.now) s asked.manner.late.rule asked.trees asked.proof)) (sym same) own;
}

pub returns-in-Run-clause-answers : goal.returns-in-Run-clause-answers
returns-in-Run-clause-answers g c words is =
    let itself = itself_within c.in-Run.slack (subst IsWithin (ap seen c.in-Run.is) c.requires.within).1 in
    c.carry_run.ensures.answers words (of_run _ (source_seen c.in-Run.query) c.in-Run.slack words c.place_of.ensures itself (subst (IsCommand words) (ap seen c.in-Run.is) is))

pub returns-in-Run-clause-report : goal.returns-in-Run-clause-report
returns-in-Run-clause-report g c words is =
    let itself = itself_within c.in-Run.slack (subst IsWithin (ap seen c.in-Run.is) c.requires.within).1 in
    c.carry_run.ensures.report words (of_run _ (source_seen c.in-Run.query) c.in-Run.slack words c.place_of.ensures itself (subst (IsCommand words) (ap seen c.in-Run.is) is))

pub returns-in-Run-clause-prompt : goal.returns-in-Run-clause-prompt
returns-in-Run-clause-prompt g c words is =
    let itself = itself_within c.in-Run.slack (subst IsWithin (ap seen c.in-Run.is) c.requires.within).1 in
    c.carry_run.ensures.prompt words (of_run _ (source_seen c.in-Run.query) c.in-Run.slack words c.place_of.ensures itself (subst (IsCommand words) (ap seen c.in-Run.is) is))

-- and those of a graph
of_graph : (asked : GraphRun) (query : QuerySource) (second returns : List ℕ) (words : List (List ℕ)) → found.place_of asked.texts.place ≡ place_of query → asked.texts.second.now ≡ second → asked.texts.returns.now ≡ returns
    → IsCommand words (graph query second returns (speed_seen asked.speed.now)) → IsGraphOf asked words
of_graph asked query second returns words at same-second same-returns own = record {
  query = query;
  place = at;
  is = subst (λ (t : List ℕ). IsCommand words (graph query t asked.texts.returns.now (speed_seen asked.speed.now))) (sym same-second)
      (subst (λ (t : List ℕ). IsCommand words (graph query second t (speed_seen asked.speed.now))) (sym same-returns) own);
}

pub returns-in-Graph-clause-answers : goal.returns-in-Graph-clause-answers
returns-in-Graph-clause-answers g c words is =
    c.carry_graph.ensures.answers words
    (of_graph _ (source_seen c.in-Graph.query) (string_bytes c.in-Graph.then) (string_bytes c.in-Graph.returns) words c.place_of-in-Graph.ensures (search rules) (search rules) (subst (IsCommand words) (ap seen c.in-Graph.is) is))

pub returns-in-Graph-clause-report : goal.returns-in-Graph-clause-report
returns-in-Graph-clause-report g c words is =
    let predictors : List (List ℕ) = map (λ one. (goal.Predictor-dyn g (one.vtable, one.value)).named one.value) c.args.predictors.items in
    let own = graph (source_seen c.in-Graph.query) (string_bytes c.in-Graph.then) (string_bytes c.in-Graph.returns) (speed_seen c.in-Graph.speed) in
    reports_nothing predictors words (g.F.Files.held c.args.files.now) (g.S.Source.state c.args.input.now).left (g.S.Source.state c.carry_graph.new.input).left own (λ reported. reported)
    (subst (IsCommand words) (ap seen c.in-Graph.is) is) c.carry_graph.result.status c.carry_graph.result.ended c.carry_graph.ensures.ended

pub returns-in-Graph-clause-prompt : goal.returns-in-Graph-clause-prompt
returns-in-Graph-clause-prompt g c words is =
    no_run words (g.F.Files.held c.args.files.now) _ _ (graph (source_seen c.in-Graph.query) (string_bytes c.in-Graph.then) (string_bytes c.in-Graph.returns) (speed_seen c.in-Graph.speed))
    (subst (IsCommand words) (ap seen c.in-Graph.is) is) (λ query speed slack late no. cc no)

pub returns-in-Some-clause-answers : goal.returns-in-Some-clause-answers
returns-in-Some-clause-answers g c words is =
    let predictors : List (List ℕ) = map (λ one. (goal.Predictor-dyn g (one.vtable, one.value)).named one.value) c.args.predictors.items in
    let before : Filed = filed (g.F.Files.held c.args.files.now) (g.F.Files.faults c.args.files.now) in
    let old : Outside = outside (g.S.Source.state c.args.input.now) (g.K.Sink.state c.args.out.now) in
    let new : Outside = outside (g.S.Source.state c.args.input.now) (g.K.Sink.state c.drill.new.out) in
    let events = c.in-Drill.events in
    let seed = c.in-Drill.seed in
    let speed = speed_seen c.in-Drill.speed in
    let own : IsCommand words (drill events seed speed) = subst (IsCommand words) (ap seen c.in-Drill.is) is in
    let there : Contains predictors (string_bytes c.in-Drill.speed.predictor) = (chosen _ _ c.args.predictors.items c.in-Some.crew.first c.in-Some.ensures.first).1 in
    drilled predictors words events seed speed (own, there) before old new c.drill.result.status (c.drill.ensures.made (g.S.Source.state c.args.input.now))

pub returns-in-Some-clause-report : goal.returns-in-Some-clause-report
returns-in-Some-clause-report g c words is =
    let predictors : List (List ℕ) = map (λ one. (goal.Predictor-dyn g (one.vtable, one.value)).named one.value) c.args.predictors.items in
    let events = c.in-Drill.events in
    let seed = c.in-Drill.seed in
    let speed = speed_seen c.in-Drill.speed in
    let own : IsCommand words (drill events seed speed) = subst (IsCommand words) (ap seen c.in-Drill.is) is in
    let there : Contains predictors (string_bytes c.in-Drill.speed.predictor) = (chosen _ _ c.args.predictors.items c.in-Some.crew.first c.in-Some.ensures.first).1 in
    let left = (g.S.Source.state c.args.input.now).left in
    reports_drill predictors words (g.F.Files.held c.args.files.now) left left events seed speed (own, there) c.drill.result.status c.drill.result.ended c.drill.ensures.report

pub returns-in-None-clause-answers : goal.returns-in-None-clause-answers
returns-in-None-clause-answers g c words is =
    let predictors : List (List ℕ) = map (λ one. (goal.Predictor-dyn g (one.vtable, one.value)).named one.value) c.args.predictors.items in
    let before : Filed = filed (g.F.Files.held c.args.files.now) (g.F.Files.faults c.args.files.now) in
    let old : Outside = outside (g.S.Source.state c.args.input.now) (g.K.Sink.state c.args.out.now) in
    let events = c.in-Drill.events in
    let seed = c.in-Drill.seed in
    let speed = speed_seen c.in-Drill.speed in
    let own : IsCommand words (drill events seed speed) = subst (IsCommand words) (ap seen c.in-Drill.is) is in
    let none : Contains predictors (string_bytes c.in-Drill.speed.predictor) → ⊥ = λ at. not_chosen _ _ c.args.predictors.items c.in-None.ensures.first at in
    subst (λ (a : CommandEnd _ _). Answers predictors words before before old old a.status) (sym c.of.ensures)
    (refused predictors words (no_call predictors words (drill events seed speed) own none) before old)

pub returns-in-Some-clause-prompt : goal.returns-in-Some-clause-prompt
returns-in-Some-clause-prompt g c words is =
    no_run words (g.F.Files.held c.args.files.now) _ _ (drill c.in-Drill.events c.in-Drill.seed (speed_seen c.in-Drill.speed)) (subst (IsCommand words) (ap seen c.in-Drill.is) is) (λ query speed slack late no. cc no)

pub returns-in-None-clause-prompt : goal.returns-in-None-clause-prompt
returns-in-None-clause-prompt g c words is =
    let old : Outside = outside (g.S.Source.state c.args.input.now) (g.K.Sink.state c.args.out.now) in
    unread_promptly words (g.F.Files.held c.args.files.now) old old refl

pub returns-in-Plain-clause-answers : goal.returns-in-Plain-clause-answers
returns-in-Plain-clause-answers g c words is =
    let predictors : List (List ℕ) = map (λ one. (goal.Predictor-dyn g (one.vtable, one.value)).named one.value) c.args.predictors.items in
    let before : Filed = filed (g.F.Files.held c.args.files.now) (g.F.Files.faults c.args.files.now) in
    let after : Filed = filed (g.F.Files.held c.carry_alone.new.files) (g.F.Files.faults c.carry_alone.new.files) in
    let old : Outside = outside (g.S.Source.state c.args.input.now) (g.K.Sink.state c.args.out.now) in
    let new : Outside = outside (g.S.Source.state c.carry_alone.new.input) (g.K.Sink.state c.carry_alone.new.out) in
    let alone : AsksNoPredictor (seen c.args.command.now) = search rules in
    subst (λ (a : CommandEnd _ _). Answers predictors words before after old new a.status) (sym c.of-in-Plain.ensures)
    (answers_alone predictors words (seen c.args.command.now) alone is before after old new c.carry_alone.result c.carry_alone.ensures)

pub returns-in-Plain-clause-report : goal.returns-in-Plain-clause-report
returns-in-Plain-clause-report g c words is =
    let predictors : List (List ℕ) = map (λ one. (goal.Predictor-dyn g (one.vtable, one.value)).named one.value) c.args.predictors.items in
    let alone : AsksNoPredictor (seen c.args.command.now) = search rules in
    reports_no predictors words (g.F.Files.held c.args.files.now) (g.S.Source.state c.args.input.now).left (g.S.Source.state c.carry_alone.new.input).left (seen c.args.command.now) alone is
    c.of-in-Plain.result.status c.of-in-Plain.result.ended (ap (λ (a : CommandEnd _ _). a.ended) c.of-in-Plain.ensures)

pub returns-in-Plain-clause-prompt : goal.returns-in-Plain-clause-prompt
returns-in-Plain-clause-prompt g c words is =
    let alone : AsksNoPredictor (seen c.args.command.now) = search rules in
    alone_runs_not words (g.F.Files.held c.args.files.now) _ _ (seen c.args.command.now) alone is
