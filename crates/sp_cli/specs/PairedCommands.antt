-- Words in pairs as whole commands.
use Rattle.std.specs.Prelude.{◌≡◌, ℕ, ℤ, Bool, List, ◌∷◌, Option, codes}
use Rattle.clap.specs.Walk.{Text}
use Rattle.sp_base.specs.Limits.{event_limit}
use Rattle.sp_slack.specs.declared.late.LateRule.{LateRule}
use Rattle.sp_cli.specs.Numbers.{number}
use Rattle.sp_cli.specs.Commands.{QuerySource, Speed, source_by, live_by, speed_by, slack_by, late_by, trees_by, run_of, plain_of, trace_of, drill_of, check_of, graph_of, command_of}
use Rattle.sp_cli.specs.Paired.{IsSpeedName, IsRunName, IsPlainName, IsTraceName, IsCheckName, IsGraphName, ArePairs, AreFlagged, value_of}

-- what the pairs say of where the query stands, of how many versions may be live, of how a run works, of events that come too late, and of how many
-- trees a run has
abbrev pub source_said : List (Text × Text) → Option QuerySource
source_said said = source_by (λ name. value_of name said)

abbrev pub live_said : List (Text × Text) → Option ℕ
live_said said = live_by (λ name. value_of name said)

abbrev pub speed_said : List (Text × Text) → Option Speed
speed_said said = speed_by (λ name. value_of name said)

abbrev pub slack_said : List (Text × Text) → Option ℤ
slack_said said = slack_by (λ name. value_of name said)

abbrev pub late_said : List (Text × Text) → Option LateRule
late_said said = late_by (λ name. value_of name said)

abbrev pub trees_said : List (Text × Text) → Option ℕ
trees_said said = trees_by (λ name. value_of name said)

-- Behind the name of a command, and behind the two numbers of a drill, words in pairs give the command that their values say; a run lists its proofs
-- just where the flag stands among them.
pub record PairsAreCommands : Type 0 where
  pub run : (proof : Bool) (words : List Text) (said : List (Text × Text)) → AreFlagged IsRunName (codes "--proof") proof words said
      → command_of (codes "run" ∷ words) ≡ run_of (source_said said) (speed_said said) (slack_said said) (late_said said) (trees_said said) proof
  pub plain : (words : List Text) (said : List (Text × Text)) → ArePairs IsPlainName words said
      → command_of (codes "plain" ∷ words) ≡ plain_of (source_said said) (slack_said said) (late_said said)
  pub trace : (words : List Text) (said : List (Text × Text)) → ArePairs IsTraceName words said
      → command_of (codes "trace" ∷ words) ≡ trace_of (source_said said) (value_of (codes "schedule") said) (live_said said)
  pub drill : (events seed : Text) (words : List Text) (said : List (Text × Text)) → ArePairs IsSpeedName words said
      → command_of (codes "drill" ∷ events ∷ seed ∷ words) ≡ drill_of (number 10 1 event_limit events) (number 10 0 4294967295 seed) (speed_said said)
  pub check : (words : List Text) (said : List (Text × Text)) → ArePairs IsCheckName words said
      → command_of (codes "check" ∷ words) ≡ check_of (source_said said) (value_of (codes "list") said)
  pub graph : (words : List Text) (said : List (Text × Text)) → ArePairs IsGraphName words said
      → command_of (codes "graph" ∷ words) ≡ graph_of (source_said said) (value_of (codes "then") said) (value_of (codes "return") said) (speed_said said)
