-- Which command words are.
use Rattle.std.specs.Prelude.{ℕ, ℤ, pos, Bool, false, List, [], ◌∷◌, Option, Some, None, ◌||◌, ◌==◌, nat_le, if◌then◌else◌, option_and_then, option_map, string_bytes, unwrap_or, codes}
use Rattle.std.specs.Str.{bytes_eq}
use Rattle.clap.specs.Walk.{Row, Text, first_of, rows_of}
use Rattle.clap.specs.Matches.{found_of}
use Rattle.clap.specs.declared.parser.matches.ArgMatches.{ArgMatches}
use Rattle.sp_base.specs.Limits.{event_limit}
use Rattle.sp_slack.specs.declared.late.LateRule.{LateRule}
use Rattle.sp_slack.specs.declared.late.LateRule.TheVariants.{Refuse, Drop}
use Rattle.sp_cli.specs.Numbers.{NumberOption, number, number_said, numbers_said, live_number, speed_numbers, slack_number, trees_number}
use Rattle.sp_cli.specs.Options.{found, run_options, plain_options, trace_options, drill_options, check_options, graph_options}
use Rattle.sp_cli.specs.declared.command.Command.{Command as FoundCommand}
use Rattle.sp_cli.specs.declared.command.Command.TheVariants as c
use Rattle.sp_cli.specs.declared.command.QuerySource.{QuerySource as FoundSource}
use Rattle.sp_cli.specs.declared.command.QuerySource.TheVariants as q
use Rattle.sp_cli.specs.declared.command.Speed.{Speed as FoundSpeed}
use Rattle.sp_cli.specs.declared.values.NumberOption.{NumberOption as FoundNumber}

-- where a query stands: in a text, or in the file of a name
pub data QuerySource : Type 0 where
  text : (content : Text) → QuerySource
  file : (name : Text) → QuerySource

-- How a run works: how many instances read, how many versions may be live, how many events are fed or lent at a time, the name of the
-- predictor that works first, and behind how many finished windows the next one takes its place (0: never).
pub record Speed : Type 0 where
  pub instances : ℕ
  pub live : ℕ
  pub batch : ℕ
  pub predictor : Text
  pub rotate : ℕ

-- its numbers, in the order of their options
abbrev pub numbers_of : Speed → List ℕ
numbers_of speed = speed.instances ∷ speed.live ∷ speed.batch ∷ speed.rotate ∷ []

-- the speed of these numbers
abbrev pub speed_of : List ℕ → Text → Option Speed
speed_of (instances ∷ live ∷ batch ∷ rotate ∷ []) predictor =
    Some (record { instances = instances; live = live; batch = batch; predictor = predictor; rotate = rotate })
speed_of _ predictor = None

-- A run of a query, the same window by window, a run of the machine over a schedule's file, a run over generated rows, the check of a listing's file,
-- or a run of a second query over what the matches of the first return. The first two say how far behind the greatest time before it an event may
-- come, and what becomes of one that comes later; the first also how many trees it has, and whether it lists the proofs of its windows.
pub data Command : Type 0 where
  run : (query : QuerySource) → (speed : Speed) → (slack : ℤ) → (late : LateRule) → (trees : ℕ) → (proof : Bool) → Command
  plain : (query : QuerySource) → (slack : ℤ) → (late : LateRule) → Command
  trace : (query : QuerySource) → (schedule : Text) → (live : ℕ) → Command
  drill : (events : ℕ) → (seed : ℕ) → (speed : Speed) → Command
  check : (query : QuerySource) → (list : Text) → Command
  graph : (query : QuerySource) → (second : Text) → (returns : Text) → (speed : Speed) → Command

-- one of the two says where the query stands, and the other is left out
abbrev pub one_source : Option Text → Option Text → Option QuerySource
one_source (Some content) None = Some (text content)
one_source None (Some name) = Some (file name)
one_source None None = None
one_source (Some content) (Some name) = None

-- a late event ends the reading, or is passed over: the first where no word says it
abbrev pub late_named : Option Text → Option LateRule
late_named None = Some Refuse
late_named (Some word) = if bytes_eq word (codes "refuse") then Some Refuse else (if bytes_eq word (codes "drop") then Some Drop else None)

-- a flag says `true` where it stands, and no other text
abbrev pub is_on : Option Text → Bool
is_on None = false
is_on (Some word) = bytes_eq word (codes "true")

-- what options say of where the query stands, of how many versions may be live, of how a run works, of events that come too late, of how many
-- trees a run has, and of whether it lists the proofs of its windows, by the text that stands for each name
abbrev pub source_by : (Text → Option Text) → Option QuerySource
source_by text_of = one_source (text_of (codes "query")) (text_of (codes "file"))

abbrev pub live_by : (Text → Option Text) → Option ℕ
live_by text_of = number_said live_number (text_of live_number.name)

abbrev pub predictor_by : (Text → Option Text) → Text
predictor_by text_of = unwrap_or (text_of (codes "predictor")) (codes "markov")

abbrev pub speed_by : (Text → Option Text) → Option Speed
speed_by text_of = option_and_then (λ numbers. speed_of numbers (predictor_by text_of)) (numbers_said text_of speed_numbers)

abbrev pub slack_by : (Text → Option Text) → Option ℤ
slack_by text_of = option_map pos (number_said slack_number (text_of slack_number.name))

abbrev pub late_by : (Text → Option Text) → Option LateRule
late_by text_of = late_named (text_of (codes "late"))

abbrev pub trees_by : (Text → Option Text) → Option ℕ
trees_by text_of = number_said trees_number (text_of trees_number.name)

abbrev pub proof_by : (Text → Option Text) → Bool
proof_by text_of = is_on (text_of (codes "proof"))

-- the same of options that were found
abbrev pub source_in : List Row → Option QuerySource
source_in rows = source_by (λ name. first_of name rows)

abbrev pub live_in : List Row → Option ℕ
live_in rows = live_by (λ name. first_of name rows)

abbrev pub speed_in : List Row → Option Speed
speed_in rows = speed_by (λ name. first_of name rows)

abbrev pub slack_in : List Row → Option ℤ
slack_in rows = slack_by (λ name. first_of name rows)

abbrev pub late_in : List Row → Option LateRule
late_in rows = late_by (λ name. first_of name rows)

abbrev pub trees_in : List Row → Option ℕ
trees_in rows = trees_by (λ name. first_of name rows)

abbrev pub proof_in : List Row → Bool
proof_in rows = proof_by (λ name. first_of name rows)

-- where there are several trees, each keeps its predictor
abbrev pub keep_predictors : ℕ → Speed → Bool
keep_predictors trees speed = nat_le trees 1 || speed.rotate == 0

abbrev pub run_of : Option QuerySource → Option Speed → Option ℤ → Option LateRule → Option ℕ → Bool → Option Command
run_of (Some query) (Some speed) (Some slack) (Some late) (Some trees) proof =
    if keep_predictors trees speed then Some (run query speed slack late trees proof) else None
run_of _ _ _ _ _ proof = None

abbrev pub plain_of : Option QuerySource → Option ℤ → Option LateRule → Option Command
plain_of (Some query) (Some slack) (Some late) = Some (plain query slack late)
plain_of _ _ _ = None

abbrev pub trace_of : Option QuerySource → Option Text → Option ℕ → Option Command
trace_of (Some query) (Some schedule) (Some live) = Some (trace query schedule live)
trace_of _ _ _ = None

abbrev pub drill_of : Option ℕ → Option ℕ → Option Speed → Option Command
drill_of (Some events) (Some seed) (Some speed) = Some (drill events seed speed)
drill_of _ _ _ = None

abbrev pub check_of : Option QuerySource → Option Text → Option Command
check_of (Some query) (Some list) = Some (check query list)
check_of _ _ = None

abbrev pub graph_of : Option QuerySource → Option Text → Option Text → Option Speed → Option Command
graph_of (Some query) (Some second) (Some returns) (Some speed) = Some (graph query second returns speed)
graph_of _ _ _ _ = None

-- the command of each name, by what is found behind it
abbrev pub run_in : List Row → Option Command
run_in rows = run_of (source_in rows) (speed_in rows) (slack_in rows) (late_in rows) (trees_in rows) (proof_in rows)

abbrev pub plain_in : List Row → Option Command
plain_in rows = plain_of (source_in rows) (slack_in rows) (late_in rows)

abbrev pub trace_in : List Row → Option Command
trace_in rows = trace_of (source_in rows) (first_of (codes "schedule") rows) (live_in rows)

abbrev pub check_in : List Row → Option Command
check_in rows = check_of (source_in rows) (first_of (codes "list") rows)

abbrev pub graph_in : List Row → Option Command
graph_in rows = graph_of (source_in rows) (first_of (codes "then") rows) (first_of (codes "return") rows) (speed_in rows)

-- the command of each name, by the words behind it
abbrev pub run_at : List Text → Option Command
run_at words = option_and_then run_in (found run_options words)

abbrev pub plain_at : List Text → Option Command
plain_at words = option_and_then plain_in (found plain_options words)

abbrev pub trace_at : List Text → Option Command
trace_at words = option_and_then trace_in (found trace_options words)

abbrev pub check_at : List Text → Option Command
check_at words = option_and_then check_in (found check_options words)

abbrev pub graph_at : List Text → Option Command
graph_at words = option_and_then graph_in (found graph_options words)

-- the two words behind `drill` are its events and its seed
abbrev pub drill_at : List Text → Option Command
drill_at (events ∷ seed ∷ words) =
    drill_of (number 10 1 event_limit events) (number 10 0 4294967295 seed) (option_and_then speed_in (found drill_options words))
drill_at _ = None

abbrev pub command_at : Text → List Text → Option Command
command_at name words =
    if bytes_eq name (codes "run") then run_at words
    else (if bytes_eq name (codes "plain") then plain_at words
    else (if bytes_eq name (codes "trace") then trace_at words
    else (if bytes_eq name (codes "drill") then drill_at words
    else (if bytes_eq name (codes "check") then check_at words
    else (if bytes_eq name (codes "graph") then graph_at words else None)))))

-- The command that the words are, or none: the first word is its name.
abbrev pub command_of : List Text → Option Command
command_of [] = None
command_of (name ∷ words) = command_at name words

-- what was found at words
abbrev pub rows_in : ArgMatches → List Row
rows_in matches = rows_of (found_of matches)

-- what was read, as the command that it is
abbrev pub source_seen : FoundSource → QuerySource
source_seen (q.Text content) = text (string_bytes content)
source_seen (q.File name) = file (string_bytes name)

abbrev pub speed_seen : FoundSpeed → Speed
speed_seen read = record {
  instances = read.instances;
  live = read.live;
  batch = read.batch;
  predictor = string_bytes read.predictor;
  rotate = read.rotate;
}

abbrev pub number_seen : FoundNumber → NumberOption
number_seen one = record { name = one.name.now; digits = 10; least = one.least; greatest = one.greatest; left_out = one.left_out }

abbrev pub seen : FoundCommand → Command
seen (c.Run query speed slack late trees proof) = run (source_seen query) (speed_seen speed) slack late trees proof
seen (c.Plain query slack late) = plain (source_seen query) slack late
seen (c.Trace query schedule live) = trace (source_seen query) (string_bytes schedule) live
seen (c.Drill events seed speed) = drill events seed (speed_seen speed)
seen (c.Check query list) = check (source_seen query) (string_bytes list)
seen (c.Graph query second returns speed) = graph (source_seen query) (string_bytes second) (string_bytes returns) (speed_seen speed)
