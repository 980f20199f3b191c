-- What words come to, and what a call answers to them.
use Rattle.std.specs.Prelude.{◌≡◌, ◌⊎◌, ℕ, Bool, List}
use Rattle.sp_io.specs.Outside.{SinkState, ToldFiles}
use Rattle.sp_answer.specs.Outcome.{Outcome, ending, nothing_for}
use Rattle.sp_answer.specs.Ran.{Outside}
use Rattle.sp_answer.specs.Promise.{Filed, Served, Promise as PromiseOf}
use Rattle.sp_answer.specs.declared.status.Status.{Status}
use Rattle.sp_answer.specs.declared.status.Status.TheVariants.{Usage}
use Rattle.sp_cli.specs.Commands.{Command, run, plain, trace, drill, check, graph}
use Rattle.sp_commands.specs.Commands.{place_of, lateness, IsCall, IsNoCall, GivesFiles}
use Rattle.sp_commands.specs.Drill.{DrillOutcome}
use Rattle.sp_commands.specs.Run.{ToldOutcome, RunOutcome, text_by}
use Rattle.sp_commands.specs.Check.{CheckOutcome}
use Rattle.sp_commands.specs.Graph.{GraphOutcome}
use Rattle.sp_commands.specs.Trace.{TraceOutcome}

-- the outcome of a command over what the files hold and the bytes taken from the input
abbrev pub CommandOutcome : Command → ToldFiles → List ℕ → Bool → Outcome → Type 0
CommandOutcome (run query speed slack late trees proof) = ToldOutcome (text_by proof) (place_of query) (lateness slack late)
CommandOutcome (plain query slack late) = RunOutcome (place_of query) (lateness slack late)
CommandOutcome (trace query schedule live) = TraceOutcome (place_of query) schedule live
CommandOutcome (drill events seed speed) = λ held bytes ended. DrillOutcome events seed
CommandOutcome (check query list) = CheckOutcome (place_of query) list
CommandOutcome (graph query second returns speed) = GraphOutcome (place_of query) second returns

-- the outcome of the words, where predictors of these names are given
abbrev pub IsOutcome : List (List ℕ) → List (List ℕ) → ToldFiles → List ℕ → Bool → Outcome → Type 0
IsOutcome predictors words held bytes ended o =
    (IsNoCall predictors words × (o ≡ nothing_for Usage))
    ⊎ ((command : Command) × IsCall predictors words command × CommandOutcome command held bytes ended o)

-- what was answered to the words, before its line is told
abbrev pub Answers : List (List ℕ) → List (List ℕ) → Filed → Filed → Outside → Outside → Status → Type 0
Answers predictors words before after old new status =
    (names : List (List ℕ)) × GivesFiles predictors words names × Served names (IsOutcome predictors words) before after old new (ending status)

-- the promise of the program to the words, where predictors of these names are given
abbrev pub Promise : List (List ℕ) → List (List ℕ) → Filed → Filed → Outside → Outside → SinkState → SinkState → ℕ → Type 0
Promise predictors words = PromiseOf (GivesFiles predictors words) (IsOutcome predictors words)
