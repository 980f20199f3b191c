-- Which words are a command whose predictors are there, where its query stands, how late its events may come, and which files it names.
use Rattle.std.specs.Prelude.{◌≡◌, ◌≤◌, ◌⊎◌, ℕ, ℤ, false, List, [], ◌∷◌, ◌++◌, Some, length}
use Rattle.std.specs.List.{Contains}
use Rattle.sp_io.specs.Outside.{SourceState}
use Rattle.sp_cli.specs.Commands.{Command, run, plain, trace, drill, check, graph, QuerySource, text, file, command_of}
use Rattle.sp_slack.specs.declared.late.LateRule.{LateRule}
use Rattle.sp_intake.specs.Loose.{Lateness}
use Rattle.sp_load.specs.Places as places
use Rattle.sp_load.specs.Places.{Place}

-- where the query of a command stands
abbrev pub place_of : QuerySource → Place
place_of (text content) = places.word content
place_of (file name) = places.file name

-- how late events of a command may come, and what becomes of one that comes later
abbrev pub lateness : ℤ → LateRule → Lateness
lateness slack late = record { slack = slack; rule = late }

-- the words are this command
abbrev pub IsCommand : List (List ℕ) → Command → Type 0
IsCommand words command = command_of words ≡ Some command

-- the predictor that a run is to have is one of these names, and there is one for each of its trees
abbrev pub HasPredictor : List (List ℕ) → Command → Type 0
HasPredictor predictors (run query speed slack late trees proof) = Contains predictors speed.predictor × (trees ≤ length predictors)
HasPredictor predictors (plain query slack late) = Unit {0}
HasPredictor predictors (trace query schedule live) = Unit {0}
HasPredictor predictors (drill events seed speed) = Contains predictors speed.predictor
HasPredictor predictors (check query list) = Unit {0}
HasPredictor predictors (graph query second returns speed) = Contains predictors speed.predictor

-- the words are this command, and its predictors are there
abbrev pub IsCall : List (List ℕ) → List (List ℕ) → Command → Type 0
IsCall predictors words command = IsCommand words command × HasPredictor predictors command

-- the words are no command, or one whose predictors are not there
abbrev pub IsNoCall : List (List ℕ) → List (List ℕ) → Type 0
IsNoCall predictors words = (command : Command) → IsCall predictors words command → ⊥

-- the file of a query, where it stands in one
abbrev pub files_at : Place → List (List ℕ)
files_at (places.word content) = []
files_at (places.file name) = name ∷ []

-- the files of a command, in the order in which they are loaded
abbrev pub files_of : Command → List (List ℕ)
files_of (run query speed slack late trees proof) = files_at (place_of query)
files_of (plain query slack late) = files_at (place_of query)
files_of (trace query schedule live) = files_at (place_of query) ++ schedule ∷ []
files_of (drill events seed speed) = []
files_of (check query list) = files_at (place_of query) ++ list ∷ []
files_of (graph query second returns speed) = files_at (place_of query)

-- the words give these names of files, in this order
abbrev pub GivesFiles : List (List ℕ) → List (List ℕ) → List (List ℕ) → Type 0
GivesFiles predictors words names =
    (IsNoCall predictors words × (names ≡ []))
    ⊎ ((command : Command) × IsCall predictors words command × (names ≡ files_of command))

-- the command reads events from the input: a drill makes its own
abbrev pub ReadsInput : Command → Type 0
ReadsInput (run query speed slack late trees proof) = Unit {0}
ReadsInput (plain query slack late) = Unit {0}
ReadsInput (trace query schedule live) = Unit {0}
ReadsInput (drill events seed speed) = ⊥
ReadsInput (check query list) = Unit {0}
ReadsInput (graph query second returns speed) = Unit {0}

-- where the words are a command that reads the input, this has not ended yet
abbrev pub IsUnendedFor : List (List ℕ) → SourceState → Type 0
IsUnendedFor words input = (command : Command) → IsCommand words command → ReadsInput command → input.ended ≡ false

-- the command is a run of the speculative engine by one tree, whose end is reported
abbrev pub IsReported : Command → Type 0
IsReported (run query speed slack late trees proof) = trees ≡ 1
IsReported (plain query slack late) = ⊥
IsReported (trace query schedule live) = ⊥
IsReported (drill events seed speed) = Unit {0}
IsReported (check query list) = ⊥
IsReported (graph query second returns speed) = ⊥
