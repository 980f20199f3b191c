use Rattle.std.proofs.Common.{ℕ, List, map}
use Rattle.std.specs.Prelude.{string_bytes}
use Rattle.sp_answer.specs.Outcome.{ending}
use Rattle.sp_answer.specs.Promise.{Filed, filed}
use Rattle.sp_answer.specs.Ran.{Outside, outside}
use Rattle.sp_answer.proofs.Answering.{served_told}
use Rattle.sp_commands.specs.Outcome.{IsOutcome}
use Rattle.sp_top.proofs.Reporting.{told}
use Rattle.sp_top.proofs.top.spectre.Goals as goal

pub returns-clause-promise : goal.returns-clause-promise
returns-clause-promise g c =
    let words = map string_bytes c.args.words.now in
    let predictors : List (List ℕ) = map (λ one. (goal.Predictor-dyn g (one.vtable, one.value)).named one.value) c.args.predictors.items in
    let before : Filed = filed (g.F.Files.held c.args.files.now) (g.F.Files.faults c.args.files.now) in
    let after : Filed = filed (g.F.Files.held c.answer-answer.new.files) (g.F.Files.faults c.answer-answer.new.files) in
    let old : Outside = outside (g.S.Source.state c.args.input.now) (g.K.Sink.state c.args.out.now) in
    let new : Outside = outside (g.S.Source.state c.answer-answer.new.input) (g.K.Sink.state c.answer-answer.new.out) in
    let source = g.met.S.Source g.world.𝓛 g.world.𝓜 g.world.𝓡 ((λ s x. x), (λ x. x), (λ x. x), λ x. x) in
    let answered = c.answer-answer.ensures.answers in
    record {
      names = answered.0;
      given = answered.1;
      end = ending c.tell-status.result;
      number = c.number.ensures;
      served = served_told answered.0 before after old new (IsOutcome predictors words) c.answer-answer.result.status c.tell-status.result c.tell-status.ensures.status answered.2;
      used_up = source.used_up c.answer-answer.new.input;
      line = c.tell-status.ensures.line;
    }

pub returns-clause-report : goal.returns-clause-report
returns-clause-report g c =
    let words = map string_bytes c.args.words.now in
    let predictors : List (List ℕ) = map (λ one. (goal.Predictor-dyn g (one.vtable, one.value)).named one.value) c.args.predictors.items in
    told predictors words (g.F.Files.held c.args.files.now) (g.S.Source.state c.args.input.now).left (g.S.Source.state c.answer-answer.new.input).left c.answer-answer.result.status c.tell-status.result
    c.answer-answer.result.ended c.if_done.result c.number.result c.tell-status.ensures.status c.answer-answer.ensures.report c.if_done.ensures.done c.if_done.ensures.other c.number.ensures
