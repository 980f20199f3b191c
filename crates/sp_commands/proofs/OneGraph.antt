-- The texts of a graph have one outcome over bytes, since plans of one query have the same matches, and what is returned of them is the same.
use Rattle.std.proofs.Common.{◌≡◌, ℕ, Bool, false, List, [], None, ◌∙◌}
use Rattle.std.specs.Prelude.{if◌then◌else◌, is_some}
use Rattle.std.specs.List.{fold}
use Rattle.sp_plan.specs.declared.event.Event.{Event}
use Rattle.sp_plan.specs.declared.found.Match.{Match}
use Rattle.sp_plan.specs.declared.plan.Expr.{Expr}
use Rattle.sp_plan.specs.declared.plan.Plan.{Plan}
use Rattle.sp_plan.specs.Sequential.{whole}
use Rattle.sp_plan.specs.Texts.{with_text}
use Rattle.sp_plan.specs.Values.{BoundEvents}
use Rattle.sp_query.specs.declared.query.Query.{Query as QueryTree}
use Rattle.sp_intake.specs.Reading.{read, stop_of}
use Rattle.sp_ports.specs.Stopping.{is_end}
use Rattle.sp_graph.specs.Derived.{Deriving, bound_of, given, with_given, start, derived}
use Rattle.sp_returns.specs.Told.{IsReturnsFor, IsFaultyReturns}
use Rattle.sp_returns.specs.Laws.{ReturnsAreAlike, ReturnsOrOneFault}
use Rattle.sp_load.specs.Queries.{IsPlanFor}
use Rattle.sp_load.specs.Seconds.{IsSecondFor}
use Rattle.sp_load.specs.Laws.{OneReading, OneSecond}
use Rattle.sp_answer.specs.Outcome.{Outcome, nothing_for}
use Rattle.sp_answer.specs.declared.status.Status.TheVariants.{Query, Second, Returns}
use Rattle.sp_commands.specs.Alike.{Alike}
use Rattle.sp_commands.specs.Ends.{Came, status_of}
use Rattle.sp_commands.specs.Graph.{derived_from, second_stop, graph_came, graph_outcome, TextsOutcome, faulty_first, faulty_second, faulty_returns, runs}
use Rattle.sp_commands.specs.Run.{windows_text}
use Rattle.sp_commands.proofs.Alike.{read_same, whole_same}
use Rattle.sp_commands.proofs.OneRun.{OneTruth, stand_alike, outcome_by, text_same}

-- ---- plans that are alike

-- expressions for columns of alike plans give the same over whatever is bound
abbrev pub GiveAlike : Plan → List Expr → Plan → List Expr → Type 0
GiveAlike p own p' own' = (bound : BoundEvents) → given p.schema.columns own bound ≡ given p'.schema.columns own' bound

module _ (p p' : Plan) (own own' : List Expr) (alike : Alike p p') (same : GiveAlike p own p' own') where
  start_same : start p ≡ start p'
  start_same = (λ i. let d : Deriving = record { events = []; texts = fold with_text [] (alike.texts i); limit = None } in d)

  derived_same : (events : List Event) (texts : List (List ℕ)) (matches : List Match) → derived own events texts p matches ≡ derived own' events texts p' matches
  derived_same events texts matches =
      (λ i. fold (λ (d : Deriving) (m : Match). if is_some d.limit then d else with_given texts d (same (bound_of events m) i)) (start_same i) matches)

module _ (q q' p p' : Plan) (own own' : List Expr) (firsts : Alike q q') (seconds : Alike p p') (same : GiveAlike p own p' own') where
  from_same : (bytes : List ℕ) (ended : Bool) → derived_from q own p bytes ended ≡ derived_from q' own' p' bytes ended
  from_same bytes ended =
      (λ i.
      let r = read_same q q' firsts bytes ended i in
      derived own r.events r.so_far.texts p (whole_same q q' firsts r.events (is_end (stop_of r ended)) i).matches)
      ∙ (let r = read q' bytes ended in derived_same p p' own own' seconds same r.events r.so_far.texts (whole q' r.events (is_end (stop_of r ended))).matches)

  graph_came_same : (bytes : List ℕ) (ended : Bool) → graph_came q own p bytes ended ≡ graph_came q' own' p' bytes ended
  graph_came_same bytes ended =
      (λ i.
      let d = from_same bytes ended i in
      let stop = second_stop (stop_of (read_same q q' firsts bytes ended i) ended) d.limit in
      let c : Came = record { events = d.events; stop = stop; status = status_of stop } in
      c)

  graph_same : (bytes : List ℕ) (ended : Bool) → graph_outcome q own p bytes ended ≡ graph_outcome q' own' p' bytes ended
  graph_same = outcome_by (graph_came q own p) (graph_came q' own' p') (windows_text p) (windows_text p') graph_came_same (text_same p p' seconds false)

-- ---- texts

-- the laws of texts of queries, of second ones, of what is returned, and of predicates
pub record GraphLaws : Type 0 where
  pub reading : OneReading
  pub second : OneSecond
  pub returned : ReturnsOrOneFault
  pub alike : (first second : QueryTree) → ReturnsAreAlike first second
  pub truth : OneTruth

module _ (laws : GraphLaws) (first second returns : List ℕ) where
  module _ (q q' p p' : Plan) (plan : IsPlanFor first q) (plan' : IsPlanFor first q') (one : IsSecondFor second p) (one' : IsSecondFor second p') where
    -- what is refused over some plans of the texts is over the others
    refused_too : (code at : ℕ) → IsFaultyReturns returns q p code at → IsFaultyReturns returns q' p' code at
    refused_too code at faulty =
        let firsts = laws.reading.plans first q q' plan plan' in
        let seconds = laws.second.plans second p p' one one' in
        (laws.alike firsts.0 seconds.0).faults returns q p q' p' code at firsts.1 firsts.2 seconds.1 seconds.2 faulty

    -- and what is returned over some of them has the outcome of what is over the others
    returned_same : (own own' : List Expr) → IsReturnsFor returns q p own → IsReturnsFor returns q' p' own' → (bytes : List ℕ) (ended : Bool) → graph_outcome q own p bytes ended ≡ graph_outcome q' own' p' bytes ended
    returned_same own own' are are' =
        let firsts = laws.reading.plans first q q' plan plan' in
        let seconds = laws.second.plans second p p' one one' in
        graph_same q q' p p' own own' (stand_alike laws.truth firsts.0 q q' firsts.1.stands firsts.2.stands) (stand_alike laws.truth seconds.0 p p' seconds.1.stands seconds.2.stands)
        ((laws.alike firsts.0 seconds.0).values returns q p q' p' own own' firsts.1 firsts.2 seconds.1 seconds.2 are are')

  module _ (bytes : List ℕ) (ended : Bool) where
    pub one_graph : (a b : Outcome) → TextsOutcome first second returns bytes ended a → TextsOutcome first second returns bytes ended b → a ≡ b
    one_graph _ _ (faulty_first code at fault) (faulty_first code' at' other) =
        let same = laws.reading.faults first code at code' at' fault other in
        λ i. nothing_for (Query (same.0 i) (same.1 i))
    one_graph _ _ (faulty_first code at fault) (faulty_second q code' at' plan other) = absurd (laws.reading.apart first q code at plan fault)
    one_graph _ _ (faulty_first code at fault) (faulty_returns q p code' at' plan one other) = absurd (laws.reading.apart first q code at plan fault)
    one_graph _ _ (faulty_first code at fault) (runs q p own plan one are) = absurd (laws.reading.apart first q code at plan fault)
    one_graph _ _ (faulty_second q code at plan fault) (faulty_first code' at' other) = absurd (laws.reading.apart first q code' at' plan other)
    one_graph _ _ (faulty_second q code at plan fault) (faulty_second q' code' at' plan' other) =
        let same = laws.second.faults second code at code' at' fault other in
        λ i. nothing_for (Second (same.0 i) (same.1 i))
    one_graph _ _ (faulty_second q code at plan fault) (faulty_returns q' p code' at' plan' one other) = absurd (laws.second.apart second p code at one fault)
    one_graph _ _ (faulty_second q code at plan fault) (runs q' p own plan' one are) = absurd (laws.second.apart second p code at one fault)
    one_graph _ _ (faulty_returns q p code at plan one fault) (faulty_first code' at' other) = absurd (laws.reading.apart first q code' at' plan other)
    one_graph _ _ (faulty_returns q p code at plan one fault) (faulty_second q' code' at' plan' other) = absurd (laws.second.apart second p code' at' one other)
    one_graph _ _ (faulty_returns q p code at plan one fault) (faulty_returns q' p' code' at' plan' one' other) =
        let same = laws.returned.faults returns q' p' code at code' at' (refused_too q q' p p' plan plan' one one' code at fault) other in
        λ i. nothing_for (Returns (same.0 i) (same.1 i))
    one_graph _ _ (faulty_returns q p code at plan one fault) (runs q' p' own plan' one' are) =
        absurd (laws.returned.apart returns q' p' own code at are (refused_too q q' p p' plan plan' one one' code at fault))
    one_graph _ _ (runs q p own plan one are) (faulty_first code at fault) = absurd (laws.reading.apart first q code at plan fault)
    one_graph _ _ (runs q p own plan one are) (faulty_second q' code at plan' fault) = absurd (laws.second.apart second p code at one fault)
    one_graph _ _ (runs q p own plan one are) (faulty_returns q' p' code at plan' one' fault) =
        absurd (laws.returned.apart returns q p own code at are (refused_too q' q p' p plan' plan one' one code at fault))
    one_graph _ _ (runs q p own plan one are) (runs q' p' own' plan' one' are') = returned_same q q' p p' plan plan' one one' own own' are are' bytes ended
