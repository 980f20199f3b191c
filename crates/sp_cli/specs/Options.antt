-- The options of each command, told as commands of `clap`, and what its definition of simple commands finds at words.
use Rattle.std.specs.Prelude.{ℕ, List, [], ◌∷◌, Option, Some, None, fold, true, codes}
use Rattle.clap.specs.Walk.{Row, Rule, Text}
use Rattle.clap.specs.Simple.{App, matches_of, new_app, new_rule, on_top, with_rule}
use Rattle.clap.specs.Faults.{fault_of}
use Rattle.clap.specs.Kinds.{Kinds}
use Rattle.clap.specs.declared.builder.action.ArgAction.TheVariants.{Set, SetTrue}
use Rattle.sp_cli.specs.Numbers.{NumberOption, speed_numbers, slack_number, trees_number}

-- an option of one text, by its long name
abbrev pub option : Text → Rule
option name = record (new_rule name) { long = Some name; action = Some Set }

-- the same with a short name
abbrev pub option_or_letter : ℕ → Text → Rule
option_or_letter letter name = record (option name) { short = Some letter }

-- a flag, by its long name: a word alone
abbrev pub flag : Text → Rule
flag name = record (new_rule name) { long = Some name; action = Some SetTrue }

-- No options: every word counts, and none asks for help.
abbrev pub no_options : App
no_options = on_top (λ shape. record shape { no_binary_name = true; disable_help_flag = true }) (new_app (codes "options"))

-- where the query stands: `-q` and `-f`
abbrev pub with_query : App → App
with_query app = with_rule (with_rule app (option_or_letter 113 (codes "query"))) (option_or_letter 102 (codes "file"))

abbrev pub with_number : App → NumberOption → App
with_number app one = with_rule app (option one.name)

-- how a run works: its numbers, and its predictor
abbrev pub with_speed : App → App
with_speed app = with_rule (fold with_number app speed_numbers) (option (codes "predictor"))

-- which events come too late, and what becomes of them
abbrev pub with_lateness : App → App
with_lateness app = with_rule (with_number app slack_number) (option (codes "late"))

-- whether a run lists the proofs of its windows
abbrev pub with_proof : App → App
with_proof app = with_rule app (flag (codes "proof"))

unfoldable pub run_options : App
run_options = with_proof (with_number (with_lateness (with_speed (with_query no_options))) trees_number)

unfoldable pub plain_options : App
plain_options = with_lateness (with_query no_options)

unfoldable pub trace_options : App
trace_options = with_rule (with_rule (with_query no_options) (option (codes "schedule"))) (option (codes "live"))

unfoldable pub drill_options : App
drill_options = with_speed no_options

unfoldable pub check_options : App
check_options = with_rule (with_query no_options) (option (codes "list"))

unfoldable pub graph_options : App
graph_options = with_speed (with_rule (with_rule (with_query no_options) (option (codes "then"))) (option (codes "return")))

abbrev pub unless_refused : Kinds → List Row → Option (List Row)
unless_refused [] rows = Some rows
unless_refused (kind ∷ kinds) rows = None

-- what is found at the words, or none where they are refused
unfoldable pub found : App → List Text → Option (List Row)
found app words = unless_refused (fault_of app words) (matches_of app words)
