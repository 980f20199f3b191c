use Rattle.std.proofs.Common.{ℕ, List, Err, map, ap, refl, subst, sym}
use Rattle.std.specs.Prelude.{string_bytes}
use Rattle.sp_answer.specs.Promise.{Filed, filed}
use Rattle.sp_answer.specs.Ran.{Outside, outside}
use Rattle.sp_commands.specs.Outcome.{Answers}
use Rattle.sp_top.specs.declared.workshop.CommandEnd.{CommandEnd}
use Rattle.sp_top.proofs.Answered.{refused, no_command, no_memory}
use Rattle.sp_top.proofs.Prompt.{unread_promptly}
use Rattle.sp_top.proofs.top.answer.Goals as goal

pub returns-in-Err-Usage-clause-answers : goal.returns-in-Err-Usage-clause-answers
returns-in-Err-Usage-clause-answers g c =
    let words = map string_bytes c.args.words.now in
    let predictors : List (List ℕ) = map (λ one. (goal.Predictor-dyn g (one.vtable, one.value)).named one.value) c.args.predictors.items in
    let before : Filed = filed (g.F.Files.held c.args.files.now) (g.F.Files.faults c.args.files.now) in
    let old : Outside = outside (g.S.Source.state c.args.input.now) (g.K.Sink.state c.args.out.now) in
    subst (λ (a : CommandEnd _ _). Answers predictors words before before old old a.status) (sym c.of.ensures)
    (refused predictors words (no_command predictors words (c.in-Err-Usage.ensures.usage (ap Err c.in-Err-Usage.field-0-is))) before old)

pub returns-clause-answers : goal.returns-clause-answers
returns-clause-answers g c =
    let words = map string_bytes c.args.words.now in
    let predictors : List (List ℕ) = map (λ one. (goal.Predictor-dyn g (one.vtable, one.value)).named one.value) c.args.predictors.items in
    let before : Filed = filed (g.F.Files.held c.args.files.now) (g.F.Files.faults c.args.files.now) in
    let old : Outside = outside (g.S.Source.state c.args.input.now) (g.K.Sink.state c.args.out.now) in
    subst (λ (a : CommandEnd _ _). Answers predictors words before before old old a.status) (sym c.of-in-Err-Memory.ensures) (no_memory predictors words before old)

pub returns-in-Err-Usage-clause-prompt : goal.returns-in-Err-Usage-clause-prompt
returns-in-Err-Usage-clause-prompt g c =
    let old : Outside = outside (g.S.Source.state c.args.input.now) (g.K.Sink.state c.args.out.now) in
    unread_promptly (map string_bytes c.args.words.now) (g.F.Files.held c.args.files.now) old old refl

pub returns-clause-prompt : goal.returns-clause-prompt
returns-clause-prompt g c =
    let old : Outside = outside (g.S.Source.state c.args.input.now) (g.K.Sink.state c.args.out.now) in
    unread_promptly (map string_bytes c.args.words.now) (g.F.Files.held c.args.files.now) old old refl

pub returns-in-Ok-clause-prompt : goal.returns-in-Ok-clause-prompt
returns-in-Ok-clause-prompt g c = c.carry_out.ensures.prompt (map string_bytes c.args.words.now) c.in-Ok.ensures.command
