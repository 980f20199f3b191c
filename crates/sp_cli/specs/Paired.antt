-- Words in pairs: the name of an option, and what it says as a word of its own.
use Rattle.std.specs.Prelude.{◌≡◌, ◌≢◌, Bool, true, false, List, [], ◌∷◌, Option, Some, None, if◌then◌else◌, slice_index, codes}
use Rattle.std.specs.List.{All, Contains}
use Rattle.std.specs.Str.{bytes_eq}
use Rattle.clap.specs.Simple.{App}
use Rattle.clap.specs.Walk.{Row, Text, first_of}
use Rattle.sp_cli.specs.Numbers.{NumberOption, speed_numbers, slack_number, trees_number}
use Rattle.sp_cli.specs.Options.{found, run_options, plain_options, trace_options, drill_options, check_options, graph_options}

-- the options that say where a query stands, by their short names
pub data IsSourceName : Text → Text → Type 0 where
  query : IsSourceName (codes "-q") (codes "query")
  file : IsSourceName (codes "-f") (codes "file")

-- the options that say how a run works, each behind two hyphens
pub data IsSpeedName : Text → Text → Type 0 where
  number : (one : NumberOption) → Contains speed_numbers one → IsSpeedName (45 ∷ 45 ∷ one.name) one.name
  predictor : IsSpeedName (codes "--predictor") (codes "predictor")

-- the options that say which events come too late, and what becomes of them
pub data IsLateName : Text → Text → Type 0 where
  slack : IsLateName (45 ∷ 45 ∷ slack_number.name) slack_number.name
  late : IsLateName (codes "--late") (codes "late")

pub data IsRunName : Text → Text → Type 0 where
  source : (word id : Text) → IsSourceName word id → IsRunName word id
  speed : (word id : Text) → IsSpeedName word id → IsRunName word id
  lateness : (word id : Text) → IsLateName word id → IsRunName word id
  trees : IsRunName (45 ∷ 45 ∷ trees_number.name) trees_number.name

pub data IsPlainName : Text → Text → Type 0 where
  source : (word id : Text) → IsSourceName word id → IsPlainName word id
  lateness : (word id : Text) → IsLateName word id → IsPlainName word id

pub data IsTraceName : Text → Text → Type 0 where
  source : (word id : Text) → IsSourceName word id → IsTraceName word id
  schedule : IsTraceName (codes "--schedule") (codes "schedule")
  live : IsTraceName (codes "--live") (codes "live")

pub data IsCheckName : Text → Text → Type 0 where
  source : (word id : Text) → IsSourceName word id → IsCheckName word id
  list : IsCheckName (codes "--list") (codes "list")

pub data IsGraphName : Text → Text → Type 0 where
  source : (word id : Text) → IsSourceName word id → IsGraphName word id
  second : IsGraphName (codes "--then") (codes "then")
  returns : IsGraphName (codes "--return") (codes "return")
  speed : (word id : Text) → IsSpeedName word id → IsGraphName word id

-- The words are pairs, no option stands there twice, and no value begins with a hyphen (45).
pub data ArePairs (IsName : Text → Text → Type 0) : List Text → List (Text × Text) → Type 0 where
  nothing : ArePairs IsName [] []
  more : (word id value : Text) (words : List Text) (said : List (Text × Text)) → IsName word id → slice_index value 0 ≢ 45
      → All (λ other. id ≢ other.0) said → ArePairs IsName words said
      → ArePairs IsName (word ∷ value ∷ words) ((id, value) ∷ said)

-- The words are such pairs, and the word of a flag stands once among them: before all, between two, or behind them.
pub data HaveFlag (IsName : Text → Text → Type 0) (flag : Text) : List Text → List (Text × Text) → Type 0 where
  before : (words : List Text) (said : List (Text × Text)) → ArePairs IsName words said → HaveFlag IsName flag (flag ∷ words) said
  behind : (word id value : Text) (words : List Text) (said : List (Text × Text)) → IsName word id → slice_index value 0 ≢ 45
      → All (λ other. id ≢ other.0) said → HaveFlag IsName flag words said → HaveFlag IsName flag (word ∷ value ∷ words) ((id, value) ∷ said)

-- the words are such pairs, with the flag among them or without it
abbrev pub AreFlagged : (Text → Text → Type 0) → Text → Bool → List Text → List (Text × Text) → Type 0
AreFlagged IsName flag true words said = HaveFlag IsName flag words said
AreFlagged IsName flag false words said = ArePairs IsName words said

-- what the option of this name says
abbrev pub value_of : Text → List (Text × Text) → Option Text
value_of id [] = None
value_of id (one ∷ rest) = if bytes_eq one.0 id then Some one.1 else value_of id rest

-- words in pairs are taken, and each option says what stands behind its name
abbrev pub FindsPairs : App → (Text → Text → Type 0) → Type 0
FindsPairs app IsName = (words : List Text) (said : List (Text × Text)) → ArePairs IsName words said
    → (rows : List Row) × (found app words ≡ Some rows) × ((id : Text) → first_of id rows ≡ value_of id said)

-- what a flag says that stands there, or that doesn't
abbrev pub flag_text : Bool → Text
flag_text true = codes "true"
flag_text false = codes "false"

-- so are words in pairs with the flag of this name among them or without it, and the flag says whether it stands there
abbrev pub FindsFlagged : App → (Text → Text → Type 0) → Text → Type 0
FindsFlagged app IsName flag = (stands : Bool) (words : List Text) (said : List (Text × Text)) → AreFlagged IsName (45 ∷ 45 ∷ flag) stands words said
    → (rows : List Row) × (found app words ≡ Some rows) × ((id : Text) → first_of id rows ≡ value_of id ((flag, flag_text stands) ∷ said))

-- The options of each command may be written in pairs, in any order, and those of a run with its flag among them.
pub record PairsAreFound : Type 0 where
  pub run : FindsFlagged run_options IsRunName (codes "proof")
  pub plain : FindsPairs plain_options IsPlainName
  pub trace : FindsPairs trace_options IsTraceName
  pub drill : FindsPairs drill_options IsSpeedName
  pub check : FindsPairs check_options IsCheckName
  pub graph : FindsPairs graph_options IsGraphName
