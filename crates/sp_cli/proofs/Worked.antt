-- The definition of words tried on rows, by computation.
use Rattle.std.proofs.Common.{◌≡◌, ◌==◌, ℕ, pos, true, false, List, [], ◌∷◌, Option, Some, None, if◌then◌else◌, map, refl}
use Rattle.std.specs.Prelude.{codes}
use Rattle.clap.proofs.OnLiterals.{clap_on_literals}
use Rattle.sp_slack.specs.declared.late.LateRule.{LateRule}
use Rattle.sp_slack.specs.declared.late.LateRule.TheVariants.{Refuse, Drop}
use Rattle.sp_cli.specs.Options.{found, run_options, plain_options, trace_options, drill_options, check_options, graph_options}
use Rattle.sp_cli.specs.Commands.{Command, QuerySource, Speed, run, plain, trace, drill, check, graph, text, file, command_of}

-- the words of a line, with one blank between any two
abbrev onto : ℕ → List (List ℕ) → List (List ℕ)
onto byte [] = (byte ∷ []) ∷ []
onto byte (word ∷ rest) = (byte ∷ word) ∷ rest

abbrev parted : List ℕ → List (List ℕ)
parted [] = [] ∷ []
parted (byte ∷ rest) = if byte == 32 then [] ∷ parted rest else onto byte (parted rest)

abbrev of : List ℕ → Option Command
of line = command_of (parted line)

abbrev speed : ℕ → ℕ → ℕ → List ℕ → Speed
speed instances live batch predictor = record { instances = instances; live = live; batch = batch; predictor = predictor; rotate = 0 }

-- how a run works where no option says more
abbrev usual : Speed
usual = speed 2 64 64 (codes "markov")

-- the usual, with an exchange of predictors
abbrev rotating : ℕ → Speed
rotating rotate = record usual { rotate = rotate }

abbrev q : QuerySource
q = text (codes "Q")

-- `plain` of a source in order
abbrev of_order : QuerySource → Option Command
of_order source = Some (plain source (pos 0) Refuse)

abbrev plain_q : Option Command
plain_q = of_order q

abbrev run_q : Speed → Option Command
run_q how = Some (run q how (pos 0) Refuse 1 false)

abbrev run_behind : ℕ → LateRule → Option Command
run_behind slack late = Some (run q usual (pos slack) late 1 false)

abbrev run_apart : ℕ → Option Command
run_apart trees = Some (run q usual (pos 0) Refuse trees false)

abbrev run_listed : QuerySource → Option Command
run_listed source = Some (run source usual (pos 0) Refuse 1 true)

abbrev plain_behind : ℕ → LateRule → Option Command
plain_behind slack late = Some (plain q (pos slack) late)

each_spelling_of_a_short_option :
    map of (codes "plain -q Q" ∷ codes "plain -qQ" ∷ codes "plain -q=Q" ∷ [])
    ≡ plain_q ∷ plain_q ∷ plain_q ∷ []
unfolding clap_on_literals found plain_options
each_spelling_of_a_short_option = refl

each_spelling_of_a_long_option :
    map of (codes "plain --query Q" ∷ codes "plain --query=Q" ∷ codes "plain --file Q" ∷ [])
    ≡ plain_q ∷ plain_q ∷ of_order (file (codes "Q")) ∷ []
unfolding clap_on_literals found plain_options
each_spelling_of_a_long_option = refl

a_closing_pair_of_hyphens :
    map of (codes "plain -q Q --" ∷ codes "plain -q Q -- Q" ∷ codes "plain -- -q Q" ∷ [])
    ≡ plain_q ∷ None ∷ None ∷ []
unfolding clap_on_literals found plain_options
a_closing_pair_of_hyphens = refl

an_empty_value_is_one :
    map of (codes "plain --query=" ∷ codes "plain -q " ∷ codes "plain -q= " ∷ [])
    ≡ of_order (text []) ∷ of_order (text []) ∷ None ∷ []
unfolding clap_on_literals found plain_options
an_empty_value_is_one = refl

a_value_that_begins_with_a_hyphen :
    map of (codes "plain -f -" ∷ codes "plain -q -Q" ∷ codes "plain -q --file" ∷ codes "plain --query=-Q" ∷ [])
    ≡ of_order (file (codes "-")) ∷ None ∷ None ∷ of_order (text (codes "-Q")) ∷ []
unfolding clap_on_literals found plain_options
a_value_that_begins_with_a_hyphen = refl

just_one_source :
    map of (codes "plain" ∷ codes "plain -q Q -f Q" ∷ codes "plain -q Q -q Q" ∷ codes "plain -q Q --query=Q" ∷ [])
    ≡ None ∷ None ∷ None ∷ None ∷ []
unfolding clap_on_literals found plain_options
just_one_source = refl

nothing_beside_the_options :
    map of (codes "plain -q Q Q" ∷ codes "plain Q -q Q" ∷ codes "plain -q Q --live 1" ∷ codes "plain -q Q --rotate 1" ∷ codes "plain --que Q" ∷ codes "plain -q" ∷ [])
    ≡ None ∷ None ∷ None ∷ None ∷ None ∷ None ∷ []
unfolding clap_on_literals found plain_options
nothing_beside_the_options = refl

help_is_no_command :
    map of (codes "plain --help" ∷ codes "plain -q Q -h" ∷ codes "plain -q Q --version" ∷ codes "plain -q Q -V" ∷ [])
    ≡ None ∷ None ∷ None ∷ None ∷ []
unfolding clap_on_literals found plain_options
help_is_no_command = refl

the_name_is_exact :
    map of (codes "" ∷ codes "Plain -q Q" ∷ codes "--help" ∷ codes "-q Q plain" ∷ codes "help" ∷ [])
    ≡ None ∷ None ∷ None ∷ None ∷ None ∷ []
unfolding clap_on_literals found
the_name_is_exact = refl

what_is_left_out_is_usual :
    map of (codes "run -q Q" ∷ codes "run" ∷ codes "run --query=Q --predictor=even" ∷ [])
    ≡ run_q usual ∷ None ∷ run_q (speed 2 64 64 (codes "even")) ∷ []
unfolding clap_on_literals found run_options
what_is_left_out_is_usual = refl

options_in_any_order :
    map of (codes "run --batch=2 --live 3 -qQ --instances 4 --predictor p" ∷ [])
    ≡ run_q (speed 4 3 2 (codes "p")) ∷ []
unfolding clap_on_literals found run_options
options_in_any_order = refl

instances_within_limits :
    map of (codes "run -q Q --instances 0" ∷ codes "run -q Q --instances 16" ∷ codes "run -q Q --instances 17" ∷ [])
    ≡ run_q (speed 0 64 64 (codes "markov")) ∷ run_q (speed 16 64 64 (codes "markov")) ∷ None ∷ []
unfolding clap_on_literals found run_options
instances_within_limits = refl

live_within_limits :
    map of (codes "run -q Q --live 0" ∷ codes "run -q Q --live 1" ∷ codes "run -q Q --live 4096" ∷ codes "run -q Q --live 4097" ∷ [])
    ≡ None ∷ run_q (speed 2 1 64 (codes "markov")) ∷ run_q (speed 2 4096 64 (codes "markov")) ∷ None ∷ []
unfolding clap_on_literals found run_options
live_within_limits = refl

batch_within_limits :
    map of (codes "run -q Q --batch 0" ∷ codes "run -q Q --batch 1" ∷ codes "run -q Q --batch 1024" ∷ codes "run -q Q --batch 1025" ∷ [])
    ≡ None ∷ run_q (speed 2 64 1 (codes "markov")) ∷ run_q (speed 2 64 1024 (codes "markov")) ∷ None ∷ []
unfolding clap_on_literals found run_options
batch_within_limits = refl

rotate_within_limits :
    map of (codes "run -q Q --rotate 0" ∷ codes "run -q Q --rotate 65536" ∷ codes "run -q Q --rotate 65537" ∷ codes "run -q Q --rotate +1" ∷ codes "run -q Q --rotate 1 --rotate 1" ∷ [])
    ≡ run_q usual ∷ run_q (rotating 65536) ∷ None ∷ None ∷ None ∷ []
unfolding clap_on_literals found run_options
rotate_within_limits = refl

slack_within_limits :
    map of (codes "run -q Q --slack 0" ∷ codes "run -q Q --slack 1000000000000000" ∷ codes "run -q Q --slack 1000000000000001" ∷ codes "run -q Q --slack 9999999999999999" ∷ [])
    ≡ run_q usual ∷ run_behind 1000000000000000 Refuse ∷ None ∷ None ∷ []
unfolding clap_on_literals found run_options
slack_within_limits = refl

slack_of_one_to_sixteen_digits :
    map of (codes "run -q Q --slack 0000000000000007" ∷ codes "run -q Q --slack 00000000000000007" ∷ codes "run -q Q --slack +7" ∷ codes "run -q Q --slack -7" ∷ codes "run -q Q --slack=" ∷ codes "run -q Q --slack 1 --slack 1" ∷ [])
    ≡ run_behind 7 Refuse ∷ None ∷ None ∷ None ∷ None ∷ None ∷ []
unfolding clap_on_literals found run_options
slack_of_one_to_sixteen_digits = refl

late_is_one_of_two_words :
    map of (codes "run -q Q --late refuse" ∷ codes "run -q Q --late drop" ∷ codes "run -q Q --late Drop" ∷ codes "run -q Q --late drops" ∷ codes "run -q Q --late=" ∷ codes "run -q Q --late" ∷ codes "run -q Q --late drop --late drop" ∷ [])
    ≡ run_q usual ∷ run_behind 0 Drop ∷ None ∷ None ∷ None ∷ None ∷ None ∷ []
unfolding clap_on_literals found run_options
late_is_one_of_two_words = refl

trees_within_limits :
    map of (codes "run -q Q --trees 1" ∷ codes "run -q Q --trees 16" ∷ codes "run -q Q --trees 0" ∷ codes "run -q Q --trees 17" ∷ codes "run -q Q --trees +2" ∷ codes "run -q Q --trees=0000000002" ∷ codes "run -q Q --trees 2 --trees 2" ∷ [])
    ≡ run_q usual ∷ run_apart 16 ∷ None ∷ None ∷ None ∷ run_apart 2 ∷ None ∷ []
unfolding clap_on_literals found run_options
trees_within_limits = refl

a_flag_first_between_and_last :
    map of (codes "run --proof -q Q" ∷ codes "run -f F --proof --live 64" ∷ codes "run -q Q --proof" ∷ codes "run -qQ --proof" ∷ codes "run -q Q" ∷ [])
    ≡ run_listed q ∷ run_listed (file (codes "F")) ∷ run_listed q ∷ run_listed q ∷ run_q usual ∷ []
unfolding clap_on_literals found run_options
a_flag_first_between_and_last = refl

a_flag_has_no_value_and_stands_once :
    map of (codes "run -q Q --proof --proof" ∷ codes "run --proof -q Q --live 1 --proof" ∷ codes "run -q Q --proof=true" ∷ codes "run -q Q --proof=false" ∷ codes "run -q Q --proof=" ∷ codes "run -q Q --proof true" ∷ [])
    ≡ None ∷ None ∷ None ∷ None ∷ None ∷ None ∷ []
unfolding clap_on_literals found run_options
a_flag_has_no_value_and_stands_once = refl

a_flag_is_no_value_of_an_option :
    map of (codes "run -q --proof" ∷ codes "run -q Q --predictor --proof" ∷ codes "run --proof" ∷ codes "run -q Q -proof" ∷ codes "run -q Q --proo" ∷ codes "run -q Q -- --proof" ∷ codes "run -q --proof Q" ∷ codes "run -q=--proof" ∷ [])
    ≡ None ∷ None ∷ None ∷ None ∷ None ∷ None ∷ None ∷ Some (run (text (codes "--proof")) usual (pos 0) Refuse 1 false) ∷ []
unfolding clap_on_literals found run_options
a_flag_is_no_value_of_an_option = refl

no_predictor_rotates_among_trees :
    map of (codes "run -q Q --trees 2 --rotate 0" ∷ codes "run -q Q --trees 2 --rotate 3" ∷ codes "run -q Q --rotate 3 --trees 1" ∷ [])
    ≡ run_apart 2 ∷ None ∷ run_q (rotating 3) ∷ []
unfolding clap_on_literals found run_options
no_predictor_rotates_among_trees = refl

the_same_of_plain :
    map of (codes "plain --late drop -q Q --slack=2" ∷ codes "plain -q Q --slack 1000000000000000" ∷ codes "plain -q Q --slack 1000000000000001" ∷ codes "plain -q Q --late keep" ∷ codes "plain -q Q --slack 1 --slack 1" ∷ codes "plain -q Q --trees 1" ∷ codes "plain -q Q --proof" ∷ [])
    ≡ plain_behind 2 Drop ∷ plain_behind 1000000000000000 Refuse ∷ None ∷ None ∷ None ∷ None ∷ None ∷ []
unfolding clap_on_literals found plain_options
the_same_of_plain = refl

one_to_ten_digits :
    map of (codes "run -q Q --live 0000000007" ∷ codes "run -q Q --live 00000000007" ∷ codes "run -q Q --live=" ∷ [])
    ≡ run_q (speed 2 7 64 (codes "markov")) ∷ None ∷ None ∷ []
unfolding clap_on_literals found run_options
one_to_ten_digits = refl

digits_alone :
    map of (codes "run -q Q --live +7" ∷ codes "run -q Q --live=-7" ∷ codes "run -q Q --live 7x" ∷ codes "run -q Q --live 1_0" ∷ [])
    ≡ None ∷ None ∷ None ∷ None ∷ []
unfolding clap_on_literals found run_options
digits_alone = refl

an_option_twice :
    map of (codes "run -q Q --live 1 --live 1" ∷ codes "run -q Q --live=1 --batch 1 --live=1" ∷ [])
    ≡ None ∷ None ∷ []
unfolding clap_on_literals found run_options
an_option_twice = refl

the_options_of_a_trace :
    map of (codes "trace -q Q --schedule S" ∷ codes "trace --live=4096 --schedule=S -f F" ∷ codes "trace -q Q" ∷ codes "trace -q Q --schedule S --live 4097" ∷ codes "trace -q Q --schedule S --batch 1" ∷ codes "trace -q Q --schedule S --rotate 1" ∷ codes "trace -q Q --schedule S --slack 1" ∷ codes "trace -q Q --schedule S --late drop" ∷ codes "trace -q Q --schedule S --trees 1" ∷ codes "trace -q Q --schedule S --proof" ∷ [])
    ≡ Some (trace q (codes "S") 64) ∷ Some (trace (file (codes "F")) (codes "S") 4096) ∷ None ∷ None ∷ None ∷ None ∷ None ∷ None ∷ None ∷ None ∷ []
unfolding clap_on_literals found trace_options
the_options_of_a_trace = refl

the_words_of_a_drill :
    map of (codes "drill 8 7" ∷ codes "drill 1048576 4294967295 --predictor even" ∷ codes "drill 1048577 7" ∷ codes "drill 0 7" ∷ codes "drill 8 4294967296" ∷ codes "drill 8 7 --rotate 5" ∷ [])
    ≡ Some (drill 8 7 usual) ∷ Some (drill 1048576 4294967295 (speed 2 64 64 (codes "even"))) ∷ None ∷ None ∷ None ∷ Some (drill 8 7 (rotating 5)) ∷ []
unfolding clap_on_literals found drill_options
the_words_of_a_drill = refl

both_numbers_of_a_drill :
    map of (codes "drill" ∷ codes "drill 8" ∷ codes "drill +8 7" ∷ codes "drill 8 +7" ∷ codes "drill 8 7 -q Q" ∷ codes "drill --live 1 8 7" ∷ codes "drill 8 7 9" ∷ codes "drill 8 7 --slack 1" ∷ codes "drill 8 7 --late drop" ∷ codes "drill 8 7 --trees 1" ∷ codes "drill 8 7 --proof" ∷ [])
    ≡ None ∷ None ∷ None ∷ None ∷ None ∷ None ∷ None ∷ None ∷ None ∷ None ∷ None ∷ []
unfolding clap_on_literals found drill_options
both_numbers_of_a_drill = refl

the_options_of_a_check :
    map of (codes "check -q Q --list L" ∷ codes "check --list L -f F" ∷ codes "check --list=L -qQ" ∷ [])
    ≡ Some (check q (codes "L")) ∷ Some (check (file (codes "F")) (codes "L")) ∷ Some (check q (codes "L")) ∷ []
unfolding clap_on_literals found check_options
the_options_of_a_check = refl

a_check_needs_a_query_and_a_list :
    map of (codes "check -q Q" ∷ codes "check --list L" ∷ codes "check" ∷ codes "check -q Q -f F --list L" ∷ codes "check -q Q --list" ∷ codes "check -q Q L" ∷ codes "check -q Q --list L --list L" ∷ codes "check -q Q --list -L" ∷ [])
    ≡ None ∷ None ∷ None ∷ None ∷ None ∷ None ∷ None ∷ None ∷ []
unfolding clap_on_literals found check_options
a_check_needs_a_query_and_a_list = refl

nothing_else_in_a_check :
    map of (codes "check -q Q --list L --proof" ∷ codes "check -q Q --list L --slack 1" ∷ codes "check -q Q --list L --late drop" ∷ codes "check -q Q --list L --trees 1" ∷ codes "check -q Q --list L --live 1" ∷ codes "plain -q Q --list L" ∷ [])
    ≡ None ∷ None ∷ None ∷ None ∷ None ∷ None ∷ []
unfolding clap_on_literals found check_options plain_options
nothing_else_in_a_check = refl

abbrev graph_q : Speed → Option Command
graph_q how = Some (graph q (codes "S") (codes "R") how)

the_options_of_a_graph :
    map of (codes "graph -q Q --then S --return R" ∷ codes "graph --return=R --live 3 --then=S -qQ" ∷ codes "graph --rotate 5 -f F --return R --then S" ∷ codes "graph -q Q --return S --then R" ∷ [])
    ≡ graph_q usual ∷ graph_q (speed 2 3 64 (codes "markov")) ∷ Some (graph (file (codes "F")) (codes "S") (codes "R") (rotating 5)) ∷ Some (graph q (codes "R") (codes "S") usual) ∷ []
unfolding clap_on_literals found graph_options
the_options_of_a_graph = refl

a_graph_needs_three_texts :
    map of (codes "graph --then S --return R" ∷ codes "graph -q Q --return R" ∷ codes "graph -q Q --then S" ∷ codes "graph" ∷ codes "graph -q Q --then S --return" ∷ codes "graph -q Q S --return R" ∷ codes "graph -q Q -f F --then S --return R" ∷ codes "graph -q Q --then S --then S --return R" ∷ [])
    ≡ None ∷ None ∷ None ∷ None ∷ None ∷ None ∷ None ∷ None ∷ []
unfolding clap_on_literals found graph_options
a_graph_needs_three_texts = refl

the_texts_of_a_graph :
    map of (codes "graph -q Q --then -S --return R" ∷ codes "graph -q Q --then S --return -R" ∷ codes "graph -q Q --then=-S --return R" ∷ codes "graph -q Q --then= --return R" ∷ [])
    ≡ None ∷ None ∷ Some (graph q (codes "-S") (codes "R") usual) ∷ Some (graph q [] (codes "R") usual) ∷ []
unfolding clap_on_literals found graph_options
the_texts_of_a_graph = refl

nothing_else_in_a_graph :
    map of (codes "graph -q Q --then S --return R --slack 1" ∷ codes "graph -q Q --then S --return R --late drop" ∷ codes "graph -q Q --then S --return R --trees 1" ∷ codes "graph -q Q --then S --return R --proof" ∷ codes "graph -q Q --then S --return R --instances 17" ∷ codes "run -q Q --then S" ∷ codes "run -q Q --return R" ∷ [])
    ≡ None ∷ None ∷ None ∷ None ∷ None ∷ None ∷ None ∷ []
unfolding clap_on_literals found graph_options run_options
nothing_else_in_a_graph = refl
