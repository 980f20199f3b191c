-- Words, told files and bytes have one outcome, since texts have one reading and alike plans run and trace alike.
use Rattle.std.proofs.Common.{◌≡◌, inl, inr, ℕ, Bool, true, false, List, [], length, Some, refl, sym, ◌∙◌, ap, subst, arith}
use Rattle.std.specs.Prelude.{if◌then◌else◌}
use Rattle.sp_base.specs.Numbers.{with_numbers}
use Rattle.sp_base.specs.Limits.{schedule_limit}
use Rattle.sp_plan.specs.declared.event.Event.{Event}
use Rattle.sp_plan.specs.declared.plan.Plan.{Plan}
use Rattle.sp_sched.specs.Schedules.{OneSchedule}
use Rattle.sp_sched.specs.declared.step.TraceStep.{TraceStep}
use Rattle.sp_emit.specs.Summary.{summary}
use Rattle.sp_listing.specs.Limits.{listing_limit}
use Rattle.sp_listing.specs.Listing.{OneListing}
use Rattle.sp_ports.specs.Stopping.{is_end}
use Rattle.sp_intake.specs.Loose.{Lateness}
use Rattle.sp_intake.specs.Reading.{Reading, read}
use Rattle.sp_ports.specs.declared.stop.Stop.{Stop}
use Rattle.sp_load.specs.Places.{Place}
use Rattle.sp_query.specs.declared.query.Query.{Query as QueryTree}
use Rattle.sp_returns.specs.Laws.{ReturnsAreAlike, ReturnsOrOneFault}
use Rattle.sp_load.specs.Queries.{IsPlanFor, IsFaulty, IsPlanAt, IsFaultyAt}
use Rattle.sp_load.specs.Laws.{OneReading, OneSecond, OneText}
use Rattle.sp_answer.specs.Outcome.{Outcome, outcome, nothing_for}
use Rattle.sp_answer.specs.declared.status.Status.TheVariants.{Done, Query, Schedule}
use Rattle.sp_cli.specs.Commands.{Command, run, plain, trace, drill, check, graph}
use Rattle.sp_drill.specs.Query.{drill_query}
use Rattle.sp_gen.specs.Generated.{generated}
use Rattle.sp_commands.specs.Commands.{place_of, lateness}
use Rattle.sp_commands.specs.Ends.{came}
use Rattle.sp_commands.specs.Drill.{summary_of, drill_text}
use Rattle.sp_commands.specs.Alike.{Alike}
use Rattle.sp_commands.specs.OneOutcome.{OneOutcome}
use Rattle.sp_commands.specs.Outcome.{CommandOutcome}
use Rattle.sp_commands.specs.Check.{CheckOutcome, TextsOutcome as CheckTexts}
use Rattle.sp_commands.specs.Graph.{TextsOutcome as GraphTexts, GraphOutcome, long_first, long_second, long_returns, of_texts}
use Rattle.sp_commands.specs.Run.{text_by, told_outcome, ToldOutcome, too_long, faulty, runs}
use Rattle.sp_commands.specs.Trace.{trace_text, trace_outcome, TextsOutcome, faulty as faulty_query, bad_line, traces, TraceOutcome}
use Rattle.sp_commands.proofs.Alike.{read_same, windows_same, whole_same}
use Rattle.sp_commands.proofs.AlikeTraces.{traced_same}
use Rattle.sp_commands.proofs.Checking.{files_of_check}
use Rattle.sp_commands.proofs.OneCheck.{one_check}
use Rattle.sp_commands.proofs.OneCommand.{one_command}
use Rattle.sp_commands.proofs.OneGraph.{GraphLaws, one_graph}
use Rattle.sp_commands.proofs.OneRun.{OneTruth, plans_run_alike, stand_alike, outcome_by, came_same}
use Rattle.sp_commands.proofs.Tracing.{files_of_trace}
use Rattle.sp_commands.proofs.TwoTexts.{one_files}

-- the laws of places, of texts, of schedules, of listings, of what is returned and of predicates
pub record RunLaws : Type 0 where
  pub text : OneText
  pub reading : OneReading
  pub schedule : OneSchedule
  pub listing : OneListing
  pub second : OneSecond
  pub returned : ReturnsOrOneFault
  pub alike : (first second : QueryTree) → ReturnsAreAlike first second
  pub truth : OneTruth

-- plans of one text run alike, whatever they tell
pub one_run : OneReading → OneTruth → (text : List ℕ) (x y : Plan) → IsPlanFor text x → IsPlanFor text y → (proof : Bool) (l : Lateness) (bytes : List ℕ) (ended : Bool)
    → told_outcome (text_by proof) x l bytes ended ≡ told_outcome (text_by proof) y l bytes ended
one_run reading truth text x y one other =
    let both = reading.plans text x y one other in
    plans_run_alike truth both.0 x y both.1 both.2

-- and trace alike
pub one_trace : OneReading → OneTruth → (text : List ℕ) (x y : Plan) → IsPlanFor text x → IsPlanFor text y → (bound : ℕ) (steps : List TraceStep) (bytes : List ℕ) (ended : Bool) → trace_outcome x bound steps bytes ended ≡ trace_outcome y bound steps bytes ended
one_trace reading truth text x y one other bound steps bytes ended =
    let both = reading.plans text x y one other in
    let alike = stand_alike truth both.0 x y both.1.stands both.2.stands in
    outcome_by (came x) (came y) (trace_text bound steps x) (trace_text bound steps y) (came_same x y alike) (λ (events : List Event) (stop : Stop). λ i. if is_end stop then traced_same x y alike bound events steps i else []) bytes ended

-- ---- a run

module _ (laws : RunLaws) (files : List (List ℕ × List ℕ)) (place : Place) where
  -- what stands there has a plan, or a fault
  apart : (q : Plan) (code at : ℕ) → IsPlanAt (Some files) place q → IsFaultyAt (Some files) place code at → ⊥
  apart q code at plan fault = laws.reading.apart fault.0 q code at (subst (λ (t : List ℕ). IsPlanFor t q) (laws.text.texts files place plan.0 fault.0 plan.1 fault.1) plan.2) fault.2

  module _ (proof : Bool) (l : Lateness) (bytes : List ℕ) (ended : Bool) where
    one_run_outcome : (a b : Outcome) → ToldOutcome (text_by proof) place l (Some files) bytes ended a → ToldOutcome (text_by proof) place l (Some files) bytes ended b → a ≡ b
    one_run_outcome _ _ (too_long long) (too_long other) = refl
    one_run_outcome _ _ (too_long long) (faulty code at fault) = absurd (laws.text.apart files place fault.0 fault.1 long)
    one_run_outcome _ _ (too_long long) (runs q plan) = absurd (laws.text.apart files place plan.0 plan.1 long)
    one_run_outcome _ _ (faulty code at fault) (too_long long) = absurd (laws.text.apart files place fault.0 fault.1 long)
    one_run_outcome _ _ (faulty code at fault) (faulty code' at' other) =
        let same = laws.reading.faults other.0 code at code' at' (subst (λ (t : List ℕ). IsFaulty t code at) (laws.text.texts files place fault.0 other.0 fault.1 other.1) fault.2) other.2 in
        λ i. nothing_for (Query (same.0 i) (same.1 i))
    one_run_outcome _ _ (faulty code at fault) (runs q plan) = absurd (apart q code at plan fault)
    one_run_outcome _ _ (runs q plan) (too_long long) = absurd (laws.text.apart files place plan.0 plan.1 long)
    one_run_outcome _ _ (runs q plan) (faulty code at fault) = absurd (apart q code at plan fault)
    one_run_outcome _ _ (runs q plan) (runs p other) =
        one_run laws.reading laws.truth other.0 q p (subst (λ (t : List ℕ). IsPlanFor t q) (laws.text.texts files place plan.0 other.0 plan.1 other.1) plan.2) other.2 proof l bytes ended

-- ---- a trace

-- texts have one outcome
pub one_texts : OneReading → OneSchedule → OneTruth → (query schedule : List ℕ) (bound : ℕ) (bytes : List ℕ) (ended : Bool) (a b : Outcome) → TextsOutcome query schedule bound bytes ended a → TextsOutcome query schedule bound bytes ended b → a ≡ b
one_texts reading sched truth query schedule bound bytes ended _ _ (faulty_query code at fault) (faulty_query code' at' other) =
    let same = reading.faults query code at code' at' fault other in
    λ i. nothing_for (Query (same.0 i) (same.1 i))
one_texts reading sched truth query schedule bound bytes ended _ _ (faulty_query code at fault) (bad_line q line plan bad) = absurd (reading.apart query q code at plan fault)
one_texts reading sched truth query schedule bound bytes ended _ _ (faulty_query code at fault) (traces q steps plan is) = absurd (reading.apart query q code at plan fault)
one_texts reading sched truth query schedule bound bytes ended _ _ (bad_line q line plan bad) (faulty_query code at fault) = absurd (reading.apart query q code at plan fault)
one_texts reading sched truth query schedule bound bytes ended _ _ (bad_line q line plan bad) (bad_line p other also worse) = ap (λ (n : ℕ). nothing_for (Schedule n)) (sched.bad schedule line other bad worse)
one_texts reading sched truth query schedule bound bytes ended _ _ (bad_line q line plan bad) (traces p steps also is) = absurd (sched.apart schedule steps line is bad)
one_texts reading sched truth query schedule bound bytes ended _ _ (traces q steps plan is) (faulty_query code at fault) = absurd (reading.apart query q code at plan fault)
one_texts reading sched truth query schedule bound bytes ended _ _ (traces q steps plan is) (bad_line p line also bad) = absurd (sched.apart schedule steps line is bad)
one_texts reading sched truth query schedule bound bytes ended _ _ (traces q steps plan is) (traces p others also so) =
    ap (λ (xs : List TraceStep). trace_outcome q bound xs bytes ended) (sched.steps schedule steps others is so) ∙ one_trace reading truth query q p plan also bound others bytes ended

module _ (laws : RunLaws) (files : List (List ℕ × List ℕ)) (place : Place) (name : List ℕ) (bytes : List ℕ) (ended : Bool) where
  one_trace_outcome : (bound : ℕ) (a b : Outcome) → TraceOutcome place name bound (Some files) bytes ended a → TraceOutcome place name bound (Some files) bytes ended b → a ≡ b
  one_trace_outcome bound a b one other =
      one_files laws.text files schedule_limit (λ query schedule. TextsOutcome query schedule bound) place name bytes ended
      (λ query schedule. one_texts laws.reading laws.schedule laws.truth query schedule bound bytes ended) a b
      (files_of_trace place name bound (Some files) bytes ended a one) (files_of_trace place name bound (Some files) bytes ended b other)

  one_check_outcome : (a b : Outcome) → CheckOutcome place name (Some files) bytes ended a → CheckOutcome place name (Some files) bytes ended b → a ≡ b
  one_check_outcome a b one other =
      one_files laws.text files listing_limit CheckTexts place name bytes ended (λ query listing. one_check laws.reading laws.listing laws.truth query listing bytes ended) a b
      (files_of_check place name (Some files) bytes ended a one) (files_of_check place name (Some files) bytes ended b other)

-- ---- a graph

pub graph_laws : RunLaws → GraphLaws
graph_laws laws = record { reading = laws.reading; second = laws.second; returned = laws.returned; alike = laws.alike; truth = laws.truth }

module _ (laws : RunLaws) (files : List (List ℕ × List ℕ)) (place : Place) (second returns : List ℕ) (bytes : List ℕ) (ended : Bool) where
  one_graph_outcome : (a b : Outcome) → GraphOutcome place second returns (Some files) bytes ended a → GraphOutcome place second returns (Some files) bytes ended b → a ≡ b
  one_graph_outcome _ _ (long_first long) (long_first also) = refl
  one_graph_outcome _ _ (long_first long) (long_second text has also) = refl
  one_graph_outcome _ _ (long_first long) (long_returns text has short also) = refl
  one_graph_outcome _ _ (long_first long) (of_texts text o has short also is) = absurd (laws.text.apart files place text has long)
  one_graph_outcome _ _ (long_second text has long) (long_first also) = refl
  one_graph_outcome _ _ (long_second text has long) (long_second other there also) = refl
  one_graph_outcome _ _ (long_second text has long) (long_returns other there short also) = refl
  one_graph_outcome _ _ (long_second text has long) (of_texts other o there short also is) = absurd (omega (arith, long, short))
  one_graph_outcome _ _ (long_returns text has short long) (long_first also) = refl
  one_graph_outcome _ _ (long_returns text has short long) (long_second other there also) = refl
  one_graph_outcome _ _ (long_returns text has short long) (long_returns other there within also) = refl
  one_graph_outcome _ _ (long_returns text has short long) (of_texts other o there within also is) = absurd (omega (arith, long, also))
  one_graph_outcome _ _ (of_texts text o has short also is) (long_first long) = absurd (laws.text.apart files place text has long)
  one_graph_outcome _ _ (of_texts text o has short also is) (long_second other there long) = absurd (omega (arith, long, short))
  one_graph_outcome _ _ (of_texts text o has short also is) (long_returns other there within long) = absurd (omega (arith, long, also))
  one_graph_outcome _ _ (of_texts text o has short also is) (of_texts other u there within too so) =
      one_graph (graph_laws laws) other second returns bytes ended o u (subst (λ (t : List ℕ). GraphTexts t second returns bytes ended o) (laws.text.texts files place text other has there) is) so

-- ---- a drill

-- plans of the drill's query have one summary
one_drill : OneReading → OneTruth → (x y : Plan) → IsPlanFor drill_query x → IsPlanFor drill_query y → (events seed : ℕ) → drill_text x events seed ≡ drill_text y events seed
one_drill reading truth x y one other events seed =
    let both = reading.plans drill_query x y one other in
    let alike = stand_alike truth both.0 x y both.1.stands both.2.stands in
    ap (λ (r : Reading). summary_of x r.events) (read_same x y alike (generated events seed) true) ∙ summary_same x y alike (read y (generated events seed) true).events
  where
    summary_same : (x y : Plan) → Alike x y → (es : List Event) → summary_of x es ≡ summary_of y es
    summary_same x y alike es = λ i.
        let progress = whole_same x y alike es true i in
        summary (length es) (length (windows_same x y alike es true i)) (length progress.matches) (length (with_numbers [] progress.consumed))

-- ---- all words

one_of : RunLaws → (files : List (List ℕ × List ℕ)) (command : Command) (bytes : List ℕ) (ended : Bool) (a b : Outcome) → CommandOutcome command (Some files) bytes ended a → CommandOutcome command (Some files) bytes ended b → a ≡ b
one_of laws files (run query speed slack late trees proof) bytes ended a b one other = one_run_outcome laws files (place_of query) proof (lateness slack late) bytes ended a b one other
one_of laws files (plain query slack late) bytes ended a b one other = one_run_outcome laws files (place_of query) false (lateness slack late) bytes ended a b one other
one_of laws files (trace query name bound) bytes ended a b one other = one_trace_outcome laws files (place_of query) name bytes ended bound a b one other
one_of laws files (check query name) bytes ended a b one other = one_check_outcome laws files (place_of query) name bytes ended a b one other
one_of laws files (graph query second returns speed) bytes ended a b one other = one_graph_outcome laws files (place_of query) second returns bytes ended a b one other
one_of laws files (drill events seed speed) bytes ended a b one other = one.2 ∙ ap (outcome Done) (one_drill laws.reading laws.truth one.0 other.0 one.1 other.1 events seed) ∙ sym other.2

pub one_outcome : RunLaws → OneOutcome
one_outcome laws predictors words files bytes ended one other (inl none) (inl so) = none.1 ∙ sym so.1
one_outcome laws predictors words files bytes ended one other (inl none) (inr at) = absurd (none.0 at.0 at.1)
one_outcome laws predictors words files bytes ended one other (inr at) (inl none) = absurd (none.0 at.0 at.1)
one_outcome laws predictors words files bytes ended one other (inr at) (inr so) =
    one_of laws files so.0 bytes ended one other (subst (λ (c : Command). CommandOutcome c (Some files) bytes ended one) (one_command words at.0 so.0 at.1.0 so.1.0) at.2) so.2
