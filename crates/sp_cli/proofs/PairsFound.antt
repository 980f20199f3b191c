-- Words in pairs are found as they stand.
use Rattle.std.proofs.Common.{◌≡◌, ◌≢◌, ◌∙◌, Bool, true, false, not, ◌&&◌, ◌||◌, List, [], ◌∷◌, ◌++◌, map, drop, Some, None, if◌then◌else◌, refl, sym, ap, ap₂, subst, true≢false}
use Rattle.std.specs.Prelude.{codes, fold, is_some}
use Rattle.std.specs.List.{list_any}
use Rattle.std.specs.Str.{bytes_eq}
use Rattle.std.proofs.lemmas.Slice.Eq.{bytes_eq-Decides}
use Rattle.std.proofs.lemmas.List.Elements.{All-contains}
use Rattle.std.proofs.lemmas.List.Sums.{AllPass-from_list_all}
use Rattle.clap.proofs.OnLiterals.{clap_on_literals}
use Rattle.clap.specs.Walk.{Row, Rule, Text, Walk, default_rows, finished, has_row, more_values, nothing_held, reading_by, rows_after, settled, settled_rows, with_default}
use Rattle.clap.specs.Takes.{is_given}
use Rattle.clap.specs.Facts.{explicit_source}
use Rattle.clap.specs.Simple.{App, Shape, built, entered, names_of}
use Rattle.clap.specs.Kinds.{check_kinds, or_else}
use Rattle.clap.specs.Faults.{built_fault, check_fault, defaults_fault, entered_fault, given_default_fault, settle_fault, use_fault, walk_fault}
use Rattle.clap.specs.declared.parser.matches.ValueSource.TheVariants.{DefaultValue}
use Rattle.sp_cli.specs.Numbers.{NumberOption, live_number, speed_numbers, slack_number, trees_number}
use Rattle.sp_cli.specs.Options.{found, unless_refused, run_options, plain_options, trace_options, drill_options, check_options, graph_options}
use Rattle.sp_cli.specs.Paired.{FindsPairs, FindsFlagged, PairsAreFound, IsSourceName, query, file, IsSpeedName, number, predictor, IsLateName, slack, late, IsRunName, IsPlainName, source, speed, lateness, trees, IsTraceName, schedule, live, IsCheckName, list, IsGraphName, second, returns}
use Rattle.sp_cli.proofs.Flagged.{first_said, flagged_ends, said_last, without_flag}
use Rattle.sp_cli.proofs.Named.{Named, late_option, named_option, right_none, rules_of, speed_option}
use Rattle.sp_cli.proofs.Walked.{Ends, IsFlag, IsOption, absent_at_first, at_row_absent, between, ends, flag_row, flag_rule, held_at, none_pending, rows, rule}

-- ---- what is left out

-- none of the options has to be there
abbrev AreOptional : List Rule → Type 0
AreOptional [] = Unit {0}
AreOptional (a ∷ c) = (a.required ≡ false) × AreOptional c

none_required : (c : List Rule) → AreOptional c → (misses : Rule → Bool) → list_any (λ (a : Rule). a.required && misses a) c ≡ false
none_required [] optional misses = refl
none_required (a ∷ c) optional misses = ap₂ (λ x y. (x && misses a) || y) optional.0 (none_required c optional.1 misses)

never_both : (a b : Bool) → b ≡ false → a && b ≡ false
never_both true b e = e
never_both false b e = refl

-- What is left out comes to the rows at the end, without a fault.
record Completes (rules : List Rule) (found last : List Row) : Type 0 where
  pub rows_are : fold with_default found rules ≡ last
  pub passes : defaults_fault found rules ≡ []

either : (b : Bool) → b || true ≡ true
either true = refl
either false = refl

same_rows : (b : Bool) (rs : List Row) → (if b then rs else rs) ≡ rs
same_rows true rs = refl
same_rows false rs = refl

-- options have no default
options_complete : (named : Named) (behind : List Rule) (found last : List Row) → Completes behind found last → Completes (rules_of named ++ behind) found last
unfolding clap_on_literals
options_complete [] behind found last h = h
options_complete (one ∷ named) behind found last h =
    let ih = options_complete named behind found last h in
    let left : with_default found (rule one.0 one.1) ≡ found = same_rows (has_row one.1 found) found in
    record {
      rows_are = ap (λ r. fold with_default r (rules_of named ++ behind)) left ∙ ih.rows_are;
      passes = ap₂ or_else (ap (λ b. if b then [] else given_default_fault (rule one.0 one.1) []) (either (has_row one.1 found)))
          (ap (λ r. defaults_fault r (rules_of named ++ behind)) left ∙ ih.passes);
    }

-- a flag that stands there needs none
flag_there : (flag : Text) (found : List Row) → has_row flag found ≡ true → Completes (flag_rule flag ∷ []) found found
unfolding clap_on_literals
flag_there flag found there = record {
  rows_are = ap (λ b. if b then found else default_rows flag (reading_by (flag_rule flag)) (codes "false" ∷ []) found) there;
  passes = ap (λ b. or_else (if b || false then [] else given_default_fault (flag_rule flag) (codes "false" ∷ [])) []) there;
}

-- and one that doesn't says so
flag_left : (flag : Text) (found : List Row) → has_row flag found ≡ false
    → Completes (flag_rule flag ∷ []) found (found ++ flag_row DefaultValue flag (codes "false") ∷ [])
unfolding clap_on_literals
flag_left flag found absent = record {
  rows_are = ap (λ b. if b then found else default_rows flag (reading_by (flag_rule flag)) (codes "false" ∷ []) found) absent
      ∙ at_row_absent flag (more_values DefaultValue (codes "false" ∷ [])) (flag_row DefaultValue flag (codes "false") ∷ []) found absent;
  passes = ap (λ b. or_else (if b || false then [] else given_default_fault (flag_rule flag) (codes "false" ∷ [])) []) absent;
}

-- ---- one command

-- What holds of each of the commands: it wants no help and no command below it, and its options are optional.
record IsBare (s : Shape) : Type 0 where
  pub help : s.arg_required_else_help ≡ false
  pub below : s.subcommand_required ≡ false
  pub optional : AreOptional s.rules

module _ (s : Shape) (bare : IsBare s) (words : List Text) (met last : List Row) (e : Ends s words [] None met) (left : Completes s.rules met last) where
  abbrev top : App
  top = record { top = s; subs = [] }

  rows_are : rows_after s.rules [] words ≡ last
  rows_are = ap (λ (w : Walk). finished s.rules w.held) e.walk_is ∙ ap (λ r. fold with_default r s.rules) e.settles.rows_are ∙ left.rows_are

  abbrev misses : List Row → Rule → Bool
  misses rs a = not (is_given a.id rs)

  checked : (rs : List Row) → check_fault s rs false ≡ []
  checked rs =
      ap₂ (λ x y. check_kinds (x && not (list_any (λ (r : Row). explicit_source r.source) rs)) y
      (not (s.subcommand_negates_reqs && false) && list_any (λ (a : Rule). a.required && misses rs a) s.rules)) bare.help bare.below
      ∙ ap (λ z. check_kinds false false z) (never_both (not (s.subcommand_negates_reqs && false))
      (list_any (λ (a : Rule). a.required && misses rs a) s.rules) (none_required s.rules bare.optional (misses rs)))

  passes : built_fault top nothing_held words ≡ []
  passes =
      ap (λ (w : Walk). or_else (walk_fault s [] (between [] None) words) (or_else (entered_fault top w.stopped)
      (or_else (settle_fault s.rules s.args_override_self w.held) (or_else (defaults_fault (settled s.rules w.held).rows s.rules)
      (check_fault s (finished s.rules w.held) (is_some (entered top w.stopped))))))) e.walk_is
      ∙ ap₂ or_else e.passes (ap₂ or_else e.settles.passes (ap₂ or_else
      (ap (λ r. defaults_fault r s.rules) e.settles.rows_are ∙ left.passes)
      (checked (finished s.rules (between e.end e.left).held))))

  found_at : (app : App) → built app ≡ top → app.top.no_binary_name ≡ true → found app words ≡ Some last
  unfolding found
  found_at app is_built all =
      let words_are : (if app.top.no_binary_name then words else drop 1 words) ≡ words = ap (λ b. if b then words else drop 1 words) all in
      ap₂ unless_refused
      (ap₂ (λ (b : App) (ws : List Text). built_fault b nothing_held ws) is_built words_are ∙ passes)
      (ap₂ (λ (b : App) (ws : List Text). rows_after b.top.rules (names_of b) ws) is_built words_are ∙ rows_are)

-- What holds of a command of such options alone, or of options and then others.
record IsCommand (app : App) (s : Shape) (named : Named) (others : List Rule) : Type 0 where
  pub is_built : built app ≡ (record { top = s; subs = [] })
  pub all : app.top.no_binary_name ≡ true
  pub bare : IsBare s
  pub rules_are : s.rules ≡ rules_of named ++ others

none_left : (found : List Row) → Completes [] found found
unfolding clap_on_literals
none_left found = record { rows_are = refl; passes = refl }

completes_at : (s : Shape) (named : Named) (others : List Rule) (met last : List Row) → s.rules ≡ rules_of named ++ others → Completes others met last
    → Completes s.rules met last
completes_at s named others met last are h = subst (λ (rules : List Rule). Completes rules met last) (sym are) (options_complete named others met last h)

-- a command of options finds pairs
finds : (app : App) (s : Shape) (named : Named) → IsCommand app s named [] → (IsName : Text → Text → Type 0)
    → ((word id : Text) → IsName word id → IsOption s word id) → FindsPairs app IsName
finds app s named it IsName known words said pairs =
    let e = ends s IsName known words said pairs [] None [] (none_pending s []) (absent_at_first said) in
    let left = completes_at s named [] (rows said) (rows said) it.rules_are (none_left (rows said)) in
    (rows said, found_at s it.bare words (rows said) (rows said) e left app it.is_built it.all, λ id. first_said id said)

-- one with a flag finds pairs with the flag among them, or without it
finds_flagged : (app : App) (s : Shape) (named : Named) (flag : Text) → IsCommand app s named (flag_rule flag ∷ []) → (IsName : Text → Text → Type 0)
    → ((word id : Text) → IsName word id → IsOption s word id) → IsFlag s (45 ∷ 45 ∷ flag) flag → ((word id : Text) → IsName word id → flag ≢ id)
    → FindsFlagged app IsName flag
finds_flagged app s named flag it IsName known is_flag differs true words said has =
    let e = flagged_ends s IsName known flag is_flag differs words said has [] None [] (none_pending s []) (absent_at_first said) refl in
    let left = completes_at s named (flag_rule flag ∷ []) e.found_more e.found_more it.rules_are (flag_there flag e.found_more e.there) in
    (e.found_more, found_at s it.bare words e.found_more e.found_more e.walk left app it.is_built it.all, e.are)
finds_flagged app s named flag it IsName known is_flag differs false words said pairs =
    let e = ends s IsName known words said pairs [] None [] (none_pending s []) (absent_at_first said) in
    let absent = without_flag IsName flag differs words said pairs in
    let last : List Row = rows said ++ flag_row DefaultValue flag (codes "false") ∷ [] in
    let left = completes_at s named (flag_rule flag ∷ []) (rows said) last it.rules_are (flag_left flag (rows said) absent) in
    (last, found_at s it.bare words (rows said) last e left app it.is_built it.all, said_last IsName flag differs DefaultValue (codes "false") words said pairs)

-- options that are made of letters and names need not be there
optional_of : (named : Named) (others : List Rule) → AreOptional others → AreOptional (rules_of named ++ others)
optional_of [] others h = h
optional_of (one ∷ named) others h = (refl, optional_of named others h)

-- the options that say where a query stands, those that say how a run works, and those that say which events come too late, and what becomes of them
abbrev sources : Named
sources = (Some 113, codes "query") ∷ (Some 102, codes "file") ∷ []

abbrev speeds : Named
speeds = map (λ (one : NumberOption). (None, one.name)) speed_numbers ++ (None, codes "predictor") ∷ []

abbrev lates : Named
lates = (None, slack_number.name) ∷ (None, codes "late") ∷ []

-- ---- `plain`

plain_shape : Shape
unfolding plain_options
plain_shape = (built plain_options).top

plain_command : IsCommand plain_options plain_shape (sources ++ lates) []
unfolding plain_options plain_shape
plain_command = record {
  is_built = refl;
  all = refl;
  bare = record { help = refl; below = refl; optional = optional_of (sources ++ lates) [] tt };
  rules_are = refl;
}

plain_source : (word id : Text) → IsSourceName word id → IsOption plain_shape word id
unfolding clap_on_literals plain_options plain_shape
plain_source word id query = record { letter = Some 113; ours = refl; step = λ rs pending. refl; passes = λ rs pending. right_none (settle_fault plain_shape.rules plain_shape.args_override_self (held_at rs pending)) }
plain_source word id file = record { letter = Some 102; ours = refl; step = λ rs pending. refl; passes = λ rs pending. right_none (settle_fault plain_shape.rules plain_shape.args_override_self (held_at rs pending)) }

plain_late : (word id : Text) → IsLateName word id → IsOption plain_shape word id
unfolding plain_options plain_shape
plain_late = late_option plain_shape (sources ++ lates) [] refl refl refl

plain_known : (word id : Text) → IsPlainName word id → IsOption plain_shape word id
plain_known word id (source w i name) = plain_source w i name
plain_known word id (lateness w i name) = plain_late w i name

-- ---- `drill`

drill_shape : Shape
unfolding drill_options
drill_shape = (built drill_options).top

drill_command : IsCommand drill_options drill_shape speeds []
unfolding drill_options drill_shape
drill_command = record {
  is_built = refl;
  all = refl;
  bare = record { help = refl; below = refl; optional = optional_of speeds [] tt };
  rules_are = refl;
}

drill_speed : (word id : Text) → IsSpeedName word id → IsOption drill_shape word id
unfolding drill_options drill_shape
drill_speed = speed_option drill_shape speeds [] refl refl refl

-- ---- `run`

abbrev runs : Named
runs = sources ++ speeds ++ lates ++ (None, trees_number.name) ∷ []

run_shape : Shape
unfolding run_options
run_shape = (built run_options).top

run_command : IsCommand run_options run_shape runs (flag_rule (codes "proof") ∷ [])
unfolding run_options run_shape
run_command = record {
  is_built = refl;
  all = refl;
  bare = record { help = refl; below = refl; optional = optional_of runs (flag_rule (codes "proof") ∷ []) (refl, tt) };
  rules_are = refl;
}

run_source : (word id : Text) → IsSourceName word id → IsOption run_shape word id
unfolding clap_on_literals run_options run_shape
run_source word id query = record { letter = Some 113; ours = refl; step = λ rs pending. refl; passes = λ rs pending. right_none (settle_fault run_shape.rules run_shape.args_override_self (held_at rs pending)) }
run_source word id file = record { letter = Some 102; ours = refl; step = λ rs pending. refl; passes = λ rs pending. right_none (settle_fault run_shape.rules run_shape.args_override_self (held_at rs pending)) }

run_speed : (word id : Text) → IsSpeedName word id → IsOption run_shape word id
unfolding run_options run_shape
run_speed = speed_option run_shape runs (flag_rule (codes "proof") ∷ []) refl refl refl

run_late : (word id : Text) → IsLateName word id → IsOption run_shape word id
unfolding run_options run_shape
run_late = late_option run_shape runs (flag_rule (codes "proof") ∷ []) refl refl refl

run_trees : IsOption run_shape (45 ∷ 45 ∷ trees_number.name) trees_number.name
unfolding run_options run_shape
run_trees = named_option run_shape runs (flag_rule (codes "proof") ∷ []) trees_number.name refl refl

run_known : (word id : Text) → IsRunName word id → IsOption run_shape word id
run_known word id (source w i name) = run_source w i name
run_known word id (speed w i name) = run_speed w i name
run_known word id (lateness w i name) = run_late w i name
run_known word id trees = run_trees

run_flag : IsFlag run_shape (codes "--proof") (codes "proof")
unfolding clap_on_literals run_options run_shape
run_flag = record {
  step = λ rs pending. refl;
  passes = λ rs pending. right_none (or_else (settle_fault run_shape.rules run_shape.args_override_self (held_at rs pending))
      (use_fault run_shape.args_override_self (flag_rule (codes "proof")) [] (settled_rows run_shape.rules pending rs)));
}

-- no option of a run has the name of its flag
other_than : (id : Text) → not (bytes_eq (codes "proof") id) ≡ true → codes "proof" ≢ id
other_than id e same = true≢false (sym e ∙ ap not ((bytes_eq-Decides (codes "proof") id).1 same))

run_differs : (word id : Text) → IsRunName word id → codes "proof" ≢ id
run_differs word id (source w i query) = other_than (codes "query") refl
run_differs word id (source w i file) = other_than (codes "file") refl
run_differs word id (speed w i (number one at)) = other_than one.name
    (All-contains (λ (it : NumberOption). not (bytes_eq (codes "proof") it.name) ≡ true) speed_numbers one
    (AllPass-from_list_all (λ (it : NumberOption). not (bytes_eq (codes "proof") it.name)) speed_numbers refl) at)
run_differs word id (speed w i predictor) = other_than (codes "predictor") refl
run_differs word id (lateness w i slack) = other_than slack_number.name refl
run_differs word id (lateness w i late) = other_than (codes "late") refl
run_differs word id trees = other_than trees_number.name refl

-- ---- `trace`

abbrev traces : Named
traces = sources ++ (None, codes "schedule") ∷ (None, live_number.name) ∷ []

trace_shape : Shape
unfolding trace_options
trace_shape = (built trace_options).top

trace_command : IsCommand trace_options trace_shape traces []
unfolding trace_options trace_shape
trace_command = record {
  is_built = refl;
  all = refl;
  bare = record { help = refl; below = refl; optional = optional_of traces [] tt };
  rules_are = refl;
}

trace_source : (word id : Text) → IsSourceName word id → IsOption trace_shape word id
unfolding clap_on_literals trace_options trace_shape
trace_source word id query = record { letter = Some 113; ours = refl; step = λ rs pending. refl; passes = λ rs pending. right_none (settle_fault trace_shape.rules trace_shape.args_override_self (held_at rs pending)) }
trace_source word id file = record { letter = Some 102; ours = refl; step = λ rs pending. refl; passes = λ rs pending. right_none (settle_fault trace_shape.rules trace_shape.args_override_self (held_at rs pending)) }

trace_known : (word id : Text) → IsTraceName word id → IsOption trace_shape word id
unfolding trace_options trace_shape
trace_known word id (source w i name) = trace_source w i name
trace_known word id schedule = named_option trace_shape traces [] (codes "schedule") refl refl
trace_known word id live = named_option trace_shape traces [] live_number.name refl refl

-- ---- `check`

abbrev checks : Named
checks = sources ++ (None, codes "list") ∷ []

check_shape : Shape
unfolding check_options
check_shape = (built check_options).top

check_command : IsCommand check_options check_shape checks []
unfolding check_options check_shape
check_command = record {
  is_built = refl;
  all = refl;
  bare = record { help = refl; below = refl; optional = optional_of checks [] tt };
  rules_are = refl;
}

check_source : (word id : Text) → IsSourceName word id → IsOption check_shape word id
unfolding clap_on_literals check_options check_shape
check_source word id query = record { letter = Some 113; ours = refl; step = λ rs pending. refl; passes = λ rs pending. right_none (settle_fault check_shape.rules check_shape.args_override_self (held_at rs pending)) }
check_source word id file = record { letter = Some 102; ours = refl; step = λ rs pending. refl; passes = λ rs pending. right_none (settle_fault check_shape.rules check_shape.args_override_self (held_at rs pending)) }

check_known : (word id : Text) → IsCheckName word id → IsOption check_shape word id
unfolding check_options check_shape
check_known word id (source w i name) = check_source w i name
check_known word id list = named_option check_shape checks [] (codes "list") refl refl

-- ---- `graph`

abbrev graphs : Named
graphs = sources ++ (None, codes "then") ∷ (None, codes "return") ∷ speeds

graph_shape : Shape
unfolding graph_options
graph_shape = (built graph_options).top

graph_command : IsCommand graph_options graph_shape graphs []
unfolding graph_options graph_shape
graph_command = record {
  is_built = refl;
  all = refl;
  bare = record { help = refl; below = refl; optional = optional_of graphs [] tt };
  rules_are = refl;
}

graph_source : (word id : Text) → IsSourceName word id → IsOption graph_shape word id
unfolding clap_on_literals graph_options graph_shape
graph_source word id query = record { letter = Some 113; ours = refl; step = λ rs pending. refl; passes = λ rs pending. right_none (settle_fault graph_shape.rules graph_shape.args_override_self (held_at rs pending)) }
graph_source word id file = record { letter = Some 102; ours = refl; step = λ rs pending. refl; passes = λ rs pending. right_none (settle_fault graph_shape.rules graph_shape.args_override_self (held_at rs pending)) }

graph_speed : (word id : Text) → IsSpeedName word id → IsOption graph_shape word id
unfolding graph_options graph_shape
graph_speed = speed_option graph_shape graphs [] refl refl refl

graph_known : (word id : Text) → IsGraphName word id → IsOption graph_shape word id
unfolding graph_options graph_shape
graph_known word id (source w i name) = graph_source w i name
graph_known word id second = named_option graph_shape graphs [] (codes "then") refl refl
graph_known word id returns = named_option graph_shape graphs [] (codes "return") refl refl
graph_known word id (speed w i name) = graph_speed w i name

-- ---- all of them

pub pairs_are_found : PairsAreFound
pairs_are_found = record {
  run = finds_flagged run_options run_shape runs (codes "proof") run_command IsRunName run_known run_flag run_differs;
  plain = finds plain_options plain_shape (sources ++ lates) plain_command IsPlainName plain_known;
  trace = finds trace_options trace_shape traces trace_command IsTraceName trace_known;
  drill = finds drill_options drill_shape speeds drill_command IsSpeedName drill_speed;
  check = finds check_options check_shape checks check_command IsCheckName check_known;
  graph = finds graph_options graph_shape graphs graph_command IsGraphName graph_known;
}
