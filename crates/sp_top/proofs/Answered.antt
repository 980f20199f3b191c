-- What was answered to a command, as an answer to its words.
use Rattle.std.proofs.Common.{◌⊎◌, ◌≡◌, ◌≤◌, inl, inr, ℕ, Bool, true, false, List, [], length, nat_le, Option, Some, None, refl, sym, subst, ◌∙◌, arith, ℤ, to_z, of_z, w64}
use Rattle.std.proofs.lemmas.Int.{ints, to_z-of_z}
use Rattle.sp_answer.specs.Outcome.{ending}
use Rattle.sp_answer.specs.Ran.{Outside, Made}
use Rattle.sp_answer.specs.Promise.{Filed, Served, by_memory, by_refusal, by_itself}
use Rattle.sp_answer.specs.declared.status.Status.{Status}
use Rattle.sp_answer.specs.declared.status.Status.TheVariants.{Memory, Usage}
use Rattle.sp_answer.proofs.Answering.{served_weaker}
use Rattle.sp_cli.specs.Limits.{IsSlackWithin}
use Rattle.sp_cli.specs.Commands.{Command, Speed, run, plain, trace, drill, check, graph, command_of}
use Rattle.sp_commands.specs.Commands.{IsCommand, HasPredictor, IsCall, IsNoCall, files_of, GivesFiles}
use Rattle.sp_commands.specs.Drill.{DrillOutcome}
use Rattle.sp_commands.specs.Outcome.{Answers, CommandOutcome, IsOutcome}
use Rattle.sp_top.specs.Predictors.{AsksNoPredictor}
use Rattle.sp_top.proofs.Chosen.{is_there}
use Rattle.sp_commands.proofs.OneCommand.{one_command}

-- a slack that a command may have is what it was where it is read back
pub itself_within : (slack : ℤ) → IsSlackWithin slack → to_z w64 (of_z w64 slack) ≡ slack
itself_within slack within = to_z-of_z w64 slack (omega (arith, ints, within.0, within.1))

pub answers : (predictors words : List (List ℕ)) (command : Command) → IsCall predictors words command → (before after : Filed) (old new : Outside) (s : Status)
    → Served (files_of command) (CommandOutcome command) before after old new (ending s) → Answers predictors words before after old new s
answers predictors words command is before after old new s served =
    (files_of command, inr (command, is, refl), served_weaker (files_of command) before after old new (CommandOutcome command) (IsOutcome predictors words) (ending s) (λ b e o given. inr (command, is, given)) served)

-- a command that asks no predictor is a call whatever predictors there are
has_none : (predictors : List (List ℕ)) (command : Command) → AsksNoPredictor command → HasPredictor predictors command
has_none predictors (run query speed slack late trees proof) alone = absurd alone
has_none predictors (plain query slack late) alone = tt
has_none predictors (trace query schedule live) alone = tt
has_none predictors (drill events seed speed) alone = absurd alone
has_none predictors (check query list) alone = tt
has_none predictors (graph query second returns speed) alone = absurd alone

pub answers_alone : (predictors words : List (List ℕ)) (command : Command) → AsksNoPredictor command → IsCommand words command → (before after : Filed) (old new : Outside) (s : Status)
    → Served (files_of command) (CommandOutcome command) before after old new (ending s) → Answers predictors words before after old new s
answers_alone predictors words command alone is = answers predictors words command (is, has_none predictors command alone)

-- a command whose predictors are not there is no call
pub no_call : (predictors words : List (List ℕ)) (command : Command) → IsCommand words command → (HasPredictor predictors command → ⊥) → IsNoCall predictors words
no_call predictors words command is none other call = none (subst (HasPredictor predictors) (one_command words other command call.0 is) call.1)

-- words that are no command are no call
pub no_command : (predictors words : List (List ℕ)) → command_of words ≡ None → IsNoCall predictors words
no_command predictors words none command call = let clash : Some command ≡ None = sym call.0 ∙ none in absurd (cc clash)

-- words that are no call are refused
pub refused : (predictors words : List (List ℕ)) → IsNoCall predictors words → (before : Filed) (old : Outside) → Answers predictors words before before old old Usage
refused predictors words none before old = (
  [],
  inl (none, refl),
  record {
    answered = by_refusal (record { is = λ bytes ended. inl (none, refl); line = refl; same = refl });
    file_told = λ name own rose. absurd (omega (arith, own.1));
    files = refl;
    counts = inl (λ name. refl);
  },
)

-- a drill opens no file
pub drilled : (predictors words : List (List ℕ)) (events seed : ℕ) (speed : Speed) → IsCall predictors words (drill events seed speed) → (before : Filed) (old new : Outside) (s : Status)
    → Made (λ bytes ended. DrillOutcome events seed) old new (ending s) → Answers predictors words before before old new s
drilled predictors words events seed speed is before old new s made = answers predictors words (drill events seed speed) is before before old new s (record {
  answered = by_itself made;
  file_told = λ name own rose. absurd (omega (arith, own.1));
  files = refl;
  counts = inl (λ name. refl);
})

-- ---- want of memory

-- two things are so, or they are not both
both : {A B : Type 0} → A ⊎ (A → ⊥) → B ⊎ (B → ⊥) → (A × B) ⊎ (A × B → ⊥)
both (inl a) (inl b) = inl (a, b)
both (inl a) (inr none) = inr (λ ab. none ab.1)
both (inr none) b = inr (λ ab. none ab.0)

at_most : (n most : ℕ) → (n ≤ most) ⊎ (n ≤ most → ⊥)
at_most n most = by (nat_le n most) refl
  where
    by : (b : Bool) → nat_le n most ≡ b → (n ≤ most) ⊎ (n ≤ most → ⊥)
    by true e = inl (search arith)
    by false e = inr (λ low. grind (arith, e, low))

-- the predictors of a command are there or not
has_predictor : (predictors : List (List ℕ)) (command : Command) → HasPredictor predictors command ⊎ (HasPredictor predictors command → ⊥)
has_predictor predictors (run query speed slack late trees proof) = both (is_there speed.predictor predictors) (at_most trees (length predictors))
has_predictor predictors (plain query slack late) = inl tt
has_predictor predictors (trace query schedule live) = inl tt
has_predictor predictors (drill events seed speed) = is_there speed.predictor predictors
has_predictor predictors (check query list) = inl tt
has_predictor predictors (graph query second returns speed) = is_there speed.predictor predictors

-- whatever the words are, they give names of files
gives_names : (predictors words : List (List ℕ)) (command : Option Command) → command_of words ≡ command → (names : List (List ℕ)) × GivesFiles predictors words names
gives_names predictors words None is = ([], inl (no_command predictors words is, refl))
gives_names predictors words (Some command) is = by (has_predictor predictors command)
  where
    by : HasPredictor predictors command ⊎ (HasPredictor predictors command → ⊥) → (names : List (List ℕ)) × GivesFiles predictors words names
    by (inl there) = (files_of command, inr (command, (is, there), refl))
    by (inr none) = ([], inl (no_call predictors words command is none, refl))

-- memory ran out before the command was known
pub no_memory : (predictors words : List (List ℕ)) (before : Filed) (old : Outside) → Answers predictors words before before old old Memory
no_memory predictors words before old =
    let given = gives_names predictors words (command_of words) refl in (
      given.0,
      given.1,
      record {
        answered = by_memory refl refl;
        file_told = λ name own rose. (inr refl, refl);
        files = refl;
        counts = inl (λ name. refl);
      },
    )
