-- What `clap` answers at words is what its definition finds there.
use Rattle.std.proofs.Common.{◌≡◌, ◌∙◌, Bool, false, ◌&&◌, Result, IfOk, List, [], ◌∷◌, Some, None, true, refl, sym, ap, inl, inr}
use Rattle.std.specs.Prelude.{codes}
use Rattle.clap.specs.Walk.{Text}
use Rattle.clap.specs.Simple.{App, HasMatchesOf, app_of, is_simple, matches_of, with_rule}
use Rattle.clap.specs.Faults.{fault_of, is_free_app, is_simple_and_free}
use Rattle.clap.specs.Words.{rows_of, found_of, kind_of}
use Rattle.clap.specs.Kinds.{Kinds, HasKind}
use Rattle.std.proofs.lemmas.Result.{IfOk-weaker}
use Rattle.clap.specs.Simple.{built}
use Rattle.clap.specs.declared.builder.command.Command.{Command}
use Rattle.clap.specs.declared.error.Error.{Error}
use Rattle.clap.specs.declared.error.kind.ErrorKind.TheVariants.{OutOfMemory}
use Rattle.clap.specs.declared.parser.matches.ArgMatches.{ArgMatches}
use Rattle.sp_cli.specs.Numbers.{trees_number}
use Rattle.sp_cli.specs.Options.{found, unless_refused, no_options, with_query, with_speed, with_lateness, with_number, with_proof, option, run_options, plain_options, trace_options, drill_options, check_options, graph_options}

-- the options of each command are simple and free
pub run_free : is_simple_and_free run_options ≡ true
unfolding run_options
run_free = refl

pub plain_free : is_simple_and_free plain_options ≡ true
unfolding plain_options
plain_free = refl

pub trace_free : is_simple_and_free trace_options ≡ true
unfolding trace_options
trace_free = refl

pub drill_free : is_simple_and_free drill_options ≡ true
unfolding drill_options
drill_free = refl

pub check_free : is_simple_and_free check_options ≡ true
unfolding check_options
check_free = refl

pub graph_free : is_simple_and_free graph_options ≡ true
unfolding graph_options
graph_free = refl

-- what is made from no options
pub plain_from : (app with : App) → app ≡ no_options → with ≡ with_query app → with_lateness with ≡ plain_options
unfolding plain_options
plain_from app with e same = ap with_lateness (same ∙ ap with_query e)

pub run_from : (app with more late trees : App) → app ≡ no_options → with ≡ with_query app → more ≡ with_speed with → late ≡ with_lateness more
    → trees ≡ with_number late trees_number → with_proof trees ≡ run_options
unfolding run_options
run_from app with more late trees e same last further most =
    ap with_proof (most ∙ ap (λ (x : App). with_number x trees_number) (further ∙ ap with_lateness (last ∙ ap with_speed (same ∙ ap with_query e))))

pub drill_from : (app : App) → app ≡ no_options → with_speed app ≡ drill_options
unfolding drill_options
drill_from app e = ap with_speed e

pub trace_from : (app with more : App) → app ≡ no_options → with ≡ with_query app → more ≡ with_rule with (option (codes "schedule"))
    → with_rule more (option (codes "live")) ≡ trace_options
unfolding trace_options
trace_from app with more e same last = ap (λ (x : App). with_rule x (option (codes "live"))) (last ∙ ap (λ (x : App). with_rule x (option (codes "schedule"))) (same ∙ ap with_query e))

pub check_from : (app with : App) → app ≡ no_options → with ≡ with_query app → with_rule with (option (codes "list")) ≡ check_options
unfolding check_options
check_from app with e same = ap (λ (x : App). with_rule x (option (codes "list"))) (same ∙ ap with_query e)

pub graph_from : (app with second returns : App) → app ≡ no_options → with ≡ with_query app → second ≡ with_rule with (option (codes "then"))
    → returns ≡ with_rule second (option (codes "return")) → with_speed returns ≡ graph_options
unfolding graph_options
graph_from app with second returns e same next last =
    ap with_speed (last ∙ ap (λ (x : App). with_rule x (option (codes "return"))) (next ∙ ap (λ (x : App). with_rule x (option (codes "then"))) (same ∙ ap with_query e)))

-- a command that is made has the same options under another name
pub made_as : {E : Type 0} (r : Result Command E) (app other : App) → app ≡ other → IfOk r (λ c. app_of c ≡ app) → IfOk r (λ c. app_of c ≡ other)
made_as r app other same made = IfOk-weaker r (λ c. app_of c ≡ app) (λ c. app_of c ≡ other) (λ c e. e ∙ same) made

pub made_free : {E : Type 0} (r : Result Command E) (app : App) → is_simple_and_free app ≡ true → IfOk r (λ c. app_of c ≡ app)
    → IfOk r (λ c. is_simple_and_free (app_of c) ≡ true)
made_free r app is made = IfOk-weaker r (λ c. app_of c ≡ app) (λ c. is_simple_and_free (app_of c) ≡ true) (λ c e. ap is_simple_and_free e ∙ is) made

left : (a b : Bool) → a && b ≡ true → a ≡ true
left true b e = refl
left false b e = e

pub simple_of : (app : App) → is_simple_and_free app ≡ true → is_simple app ≡ true
simple_of app e = left (is_simple app) (is_free_app (built app)) e

taken : (app : App) (words : List Text) (kinds : Kinds) → kinds ≡ [] → unless_refused kinds (matches_of app words) ≡ Some (matches_of app words)
taken app words kinds none = ap (λ ks. unless_refused ks (matches_of app words)) none

pub found-ok : (app : App) (words : List Text) (m : ArgMatches) → is_simple app ≡ true → fault_of app words ≡ [] → HasMatchesOf app words m
    → found app words ≡ Some (rows_of (found_of m))
unfolding found
found-ok app words m simple none same = taken app words (fault_of app words) none ∙ ap (λ rows. Some rows) (sym (same simple).0)

refused : (app : App) (words : List Text) (kinds : Kinds) (e : Error) → HasKind kinds e → (kind_of e ≡ OutOfMemory → ⊥)
    → unless_refused kinds (matches_of app words) ≡ None
refused app words [] e (inl memory) other = absurd (other memory)
refused app words [] e (inr among) other = absurd among
refused app words (kind ∷ kinds) e has other = refl

pub found-err : (app : App) (words : List Text) (e : Error) → HasKind (fault_of app words) e → (kind_of e ≡ OutOfMemory → ⊥)
    → found app words ≡ None
unfolding found
found-err app words e has other = refused app words (fault_of app words) e has other
