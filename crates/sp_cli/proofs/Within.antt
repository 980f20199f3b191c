-- The numbers of a command are within their limits.
use Rattle.std.proofs.Common.{◌≡◌, ℕ, ℤ, pos, Bool, true, false, cond, List, [], ◌∷◌, Option, Some, None, ◌&&◌, nat_le, if◌then◌else◌, refl, ap, subst, arith}
use Rattle.std.specs.Prelude.{codes, option_and_then, option_map, unwrap_or}
use Rattle.std.specs.List.{list_all}
use Rattle.std.specs.Str.{bytes_eq}
use Rattle.std.specs.Str.Parse.{digits_value}
use Rattle.clap.specs.Walk.{Row, Text, first_of}
use Rattle.sp_base.specs.Limits.{event_limit}
use Rattle.sp_slack.specs.declared.late.LateRule.{LateRule}
use Rattle.sp_cli.specs.Numbers.{NumberOption, number, number_said, put_number, numbers_said, live_number, speed_numbers, slack_number, trees_number, is_numeral, is_between}
use Rattle.sp_cli.specs.Options.{found, run_options, plain_options, trace_options, drill_options, check_options, graph_options}
use Rattle.sp_cli.specs.Commands.{Command, QuerySource, Speed, run, plain, trace, drill, check, graph, numbers_of, speed_of, predictor_by, live_in, source_in, speed_in, slack_in, late_in, trees_in, proof_in, keep_predictors, run_of, plain_of, trace_of, drill_of, check_of, graph_of, run_in, plain_in, trace_in, check_in, graph_in, drill_at, run_at, plain_at, trace_at, check_at, graph_at}
use Rattle.sp_cli.specs.Limits.{IsBetween, IsNumberOf, AreNumbersOf, IsSpeedWithin, IsSlackWithin, IsWithin, NumbersAreWithin}
use Rattle.sp_cli.proofs.Numbers.{first, second, le_from}

-- the value of an option that is there
is_some_of : {X : Type 0} (x y : X) → Some x ≡ Some y → x ≡ y
is_some_of x y e = ap (λ o. unwrap_or o x) e

-- what an option has where it has anything
abbrev Has : {X : Type 0} → (X → Type 0) → Option X → Type 0
Has {X} P o = (x : X) → o ≡ Some x → P x

has_none : {X : Type 0} (P : X → Type 0) → Has P None
has_none P x e = absurd (cc e)

has_some : {X : Type 0} (P : X → Type 0) (x : X) → P x → Has P (Some x)
has_some P x p y e = subst P (is_some_of x y e) p

of_test : (least greatest v : ℕ) (t : Bool) → (t ≡ true → IsBetween least greatest v) → Has (IsBetween least greatest) (cond t (Some v) None)
of_test least greatest v true h = has_some (IsBetween least greatest) v (h refl)
of_test least greatest v false h = has_none (IsBetween least greatest)

number_within : (digits least greatest : ℕ) (text : List ℕ) → Has (IsBetween least greatest) (number digits least greatest text)
number_within digits least greatest text =
    let v = digits_value 10 text in
    of_test least greatest v (is_numeral digits text && is_between least greatest v) (λ e.
    let between = second (is_numeral digits text) (is_between least greatest v) e in
    (le_from least v (first (nat_le least v) (nat_le v greatest) between), le_from v greatest (second (nat_le least v) (nat_le v greatest) between)))

-- an option may say what it is where it is left out
abbrev is_fine : NumberOption → Bool
is_fine one = is_between one.least one.greatest one.left_out

said_within : (one : NumberOption) → is_fine one ≡ true → (said : Option (List ℕ)) → Has (IsNumberOf one) (number_said one said)
said_within one fine None = has_some (IsNumberOf one) one.left_out
    (le_from one.least one.left_out (first (nat_le one.least one.left_out) (nat_le one.left_out one.greatest) fine), le_from one.left_out one.greatest (second (nat_le one.least one.left_out) (nat_le one.left_out one.greatest) fine))
said_within one fine (Some text) = number_within one.digits one.least one.greatest text

put_within : (one : NumberOption) (others : List NumberOption) (a : Option ℕ) (s : Option (List ℕ)) → Has (IsNumberOf one) a → Has (AreNumbersOf others) s
    → Has (AreNumbersOf (one ∷ others)) (put_number a s)
put_within one others None s ha hs = has_none (AreNumbersOf (one ∷ others))
put_within one others (Some n) None ha hs = has_none (AreNumbersOf (one ∷ others))
put_within one others (Some n) (Some numbers) ha hs = has_some (AreNumbersOf (one ∷ others)) (n ∷ numbers) (ha n refl, hs numbers refl)

numbers_within : (text_of : Text → Option Text) (ones : List NumberOption) → list_all is_fine ones ≡ true → Has (AreNumbersOf ones) (numbers_said text_of ones)
numbers_within text_of [] fine = has_some (AreNumbersOf []) [] tt
numbers_within text_of (one ∷ others) fine =
    put_within one others (number_said one (text_of one.name)) (numbers_said text_of others) (said_within one (first (is_fine one) (list_all is_fine others) fine) (text_of one.name))
    (numbers_within text_of others (second (is_fine one) (list_all is_fine others) fine))

-- a speed has the numbers that it is made of
of_numbers : (P : List ℕ → Type 0) (numbers : List ℕ) (predictor : Text) → P numbers → Has (λ speed. P (numbers_of speed)) (speed_of numbers predictor)
of_numbers P (instances ∷ live ∷ batch ∷ rotate ∷ []) predictor p =
    has_some (λ speed. P (numbers_of speed)) (record { instances = instances; live = live; batch = batch; predictor = predictor; rotate = rotate }) p
of_numbers P _ predictor p = has_none (λ speed. P (numbers_of speed))

speed_of_within : (said : Option (List ℕ)) (predictor : Text) → Has (AreNumbersOf speed_numbers) said → Has IsSpeedWithin (option_and_then (λ numbers. speed_of numbers predictor) said)
speed_of_within None predictor h = has_none IsSpeedWithin
speed_of_within (Some numbers) predictor h = of_numbers (AreNumbersOf speed_numbers) numbers predictor (h numbers refl)

live_within : (rows : List Row) → Has (IsNumberOf live_number) (live_in rows)
live_within rows = said_within live_number refl (first_of live_number.name rows)

speed_within : (rows : List Row) → Has IsSpeedWithin (speed_in rows)
speed_within rows =
    let text_of : Text → Option Text = λ name. first_of name rows in
    speed_of_within (numbers_said text_of speed_numbers) (predictor_by text_of) (numbers_within text_of speed_numbers refl)

slack_of_within : (said : Option ℕ) → Has (IsNumberOf slack_number) said → Has IsSlackWithin (option_map pos said)
slack_of_within None h = has_none IsSlackWithin
slack_of_within (Some n) h = let within = h n refl in has_some IsSlackWithin (pos n) (search arith, search arith)

slack_within : (rows : List Row) → Has IsSlackWithin (slack_in rows)
slack_within rows =
    let said = first_of slack_number.name rows in
    slack_of_within (number_said slack_number said) (said_within slack_number refl said)

trees_within : (rows : List Row) → Has (IsNumberOf trees_number) (trees_in rows)
trees_within rows = said_within trees_number refl (first_of trees_number.name rows)

where_kept : (b : Bool) (command : Command) → IsWithin command → Has IsWithin (if b then Some command else None)
where_kept true command within = has_some IsWithin command within
where_kept false command within = has_none IsWithin

run_within : (query : Option QuerySource) (speed : Option Speed) (slack : Option ℤ) (late : Option LateRule) (trees : Option ℕ) (proof : Bool)
    → Has IsSpeedWithin speed → Has IsSlackWithin slack → Has (IsNumberOf trees_number) trees → Has IsWithin (run_of query speed slack late trees proof)
run_within None speed slack late trees proof hs h ht = has_none IsWithin
run_within (Some query) None slack late trees proof hs h ht = has_none IsWithin
run_within (Some query) (Some speed) None late trees proof hs h ht = has_none IsWithin
run_within (Some query) (Some speed) (Some slack) None trees proof hs h ht = has_none IsWithin
run_within (Some query) (Some speed) (Some slack) (Some late) None proof hs h ht = has_none IsWithin
run_within (Some query) (Some speed) (Some slack) (Some late) (Some trees) proof hs h ht =
    where_kept (keep_predictors trees speed) (run query speed slack late trees proof) (hs speed refl, h slack refl, ht trees refl)

plain_within : (query : Option QuerySource) (slack : Option ℤ) (late : Option LateRule) → Has IsSlackWithin slack → Has IsWithin (plain_of query slack late)
plain_within None slack late h = has_none IsWithin
plain_within (Some query) None late h = has_none IsWithin
plain_within (Some query) (Some slack) None h = has_none IsWithin
plain_within (Some query) (Some slack) (Some late) h = has_some IsWithin (plain query slack late) (h slack refl)

trace_within : (query : Option QuerySource) (schedule : Option Text) (live : Option ℕ) → Has (IsNumberOf live_number) live → Has IsWithin (trace_of query schedule live)
trace_within None schedule live h = has_none IsWithin
trace_within (Some query) None live h = has_none IsWithin
trace_within (Some query) (Some schedule) None h = has_none IsWithin
trace_within (Some query) (Some schedule) (Some live) h = has_some IsWithin (trace query schedule live) (h live refl)

drill_within : (events seed : Option ℕ) (speed : Option Speed) → Has (IsBetween 1 event_limit) events → Has (IsBetween 0 4294967295) seed → Has IsSpeedWithin speed
    → Has IsWithin (drill_of events seed speed)
drill_within None seed speed he hs h = has_none IsWithin
drill_within (Some events) None speed he hs h = has_none IsWithin
drill_within (Some events) (Some seed) None he hs h = has_none IsWithin
drill_within (Some events) (Some seed) (Some speed) he hs h = has_some IsWithin (drill events seed speed) (he events refl, hs seed refl, h speed refl)

check_within : (query : Option QuerySource) (list : Option Text) → Has IsWithin (check_of query list)
check_within None list = has_none IsWithin
check_within (Some query) None = has_none IsWithin
check_within (Some query) (Some list) = has_some IsWithin (check query list) tt

graph_within : (query : Option QuerySource) (second returns : Option Text) (speed : Option Speed) → Has IsSpeedWithin speed
    → Has IsWithin (graph_of query second returns speed)
graph_within None second returns speed h = has_none IsWithin
graph_within (Some query) None returns speed h = has_none IsWithin
graph_within (Some query) (Some second) None speed h = has_none IsWithin
graph_within (Some query) (Some second) (Some returns) None h = has_none IsWithin
graph_within (Some query) (Some second) (Some returns) (Some speed) h = has_some IsWithin (graph query second returns speed) (h speed refl)

behind : {X : Type 0} (P : X → Type 0) (read : List Row → Option X) → ((rows : List Row) → Has P (read rows)) → (o : Option (List Row)) → Has P (option_and_then read o)
behind P read h None = has_none P
behind P read h (Some rows) = h rows

drill_at_within : (words : List Text) → Has IsWithin (drill_at words)
drill_at_within [] = has_none IsWithin
drill_at_within (events ∷ []) = has_none IsWithin
drill_at_within (events ∷ seed ∷ words) = drill_within (number 10 1 event_limit events) (number 10 0 4294967295 seed) (option_and_then speed_in (found drill_options words))
    (number_within 10 1 event_limit events) (number_within 10 0 4294967295 seed) (behind IsSpeedWithin speed_in speed_within (found drill_options words))

either : (b : Bool) (one other : Option Command) → Has IsWithin one → Has IsWithin other → Has IsWithin (if b then one else other)
either true one other h k = h
either false one other h k = k

pub numbers_are_within : NumbersAreWithin
numbers_are_within [] = has_none IsWithin
numbers_are_within (name ∷ words) =
    let runs = behind IsWithin run_in (λ rows. run_within (source_in rows) (speed_in rows) (slack_in rows) (late_in rows) (trees_in rows) (proof_in rows) (speed_within rows) (slack_within rows) (trees_within rows)) (found run_options words) in
    let plains = behind IsWithin plain_in (λ rows. plain_within (source_in rows) (slack_in rows) (late_in rows) (slack_within rows)) (found plain_options words) in
    let traces = behind IsWithin trace_in (λ rows. trace_within (source_in rows) (first_of (codes "schedule") rows) (live_in rows) (live_within rows)) (found trace_options words) in
    let checks = behind IsWithin check_in (λ rows. check_within (source_in rows) (first_of (codes "list") rows)) (found check_options words) in
    let graphs = behind IsWithin graph_in (λ rows. graph_within (source_in rows) (first_of (codes "then") rows) (first_of (codes "return") rows) (speed_in rows) (speed_within rows)) (found graph_options words) in
    named (codes "run") run_at runs (named (codes "plain") plain_at plains (named (codes "trace") trace_at traces
    (named (codes "drill") drill_at (drill_at_within words) (named (codes "check") check_at checks
    (named (codes "graph") graph_at graphs (has_none IsWithin))))))
  where
    named : (wanted : Text) (at : List Text → Option Command) {other : Option Command} → Has IsWithin (at words) → Has IsWithin other
        → Has IsWithin (if bytes_eq name wanted then at words else other)
    named wanted at {other} one rest = either (bytes_eq name wanted) (at words) other one rest
