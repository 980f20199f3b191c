-- What a graph comes to: the matches of a first query over the input become events of a second, whose matches are told.
use Rattle.std.specs.Prelude.{◌≡◌, ◌≢◌, ◌⊎◌, ◌<◌, ◌≤◌, ℕ, Bool, List, length, Option, Some}
use Rattle.sp_base.specs.Limits.{query_limit}
use Rattle.sp_io.specs.Outside.{ToldFiles}
use Rattle.sp_plan.specs.declared.plan.Expr.{Expr}
use Rattle.sp_plan.specs.declared.plan.Plan.{Plan}
use Rattle.sp_plan.specs.Sequential.{whole}
use Rattle.sp_intake.specs.Reading.{read, stop_of}
use Rattle.sp_graph.specs.Derived.{Deriving, derived}
use Rattle.sp_returns.specs.Told.{IsReturnsFor, IsFaultyReturns}
use Rattle.sp_ports.specs.Stopping.{is_end}
use Rattle.sp_ports.specs.declared.stop.Failure.TheVariants.{Limit}
use Rattle.sp_ports.specs.declared.stop.Stop.{Stop}
use Rattle.sp_ports.specs.declared.stop.Stop.TheVariants.{End, Failed}
use Rattle.sp_load.specs.Places.{Place, HasText, IsLonger}
use Rattle.sp_load.specs.Queries.{IsPlanFor, IsFaulty}
use Rattle.sp_load.specs.Seconds.{IsSecondFor, IsFaultySecond}
use Rattle.sp_answer.specs.Outcome.{Outcome, nothing_for}
use Rattle.sp_answer.specs.declared.status.Status.{Status}
use Rattle.sp_answer.specs.declared.status.Status.TheVariants.{Memory, Read, Query, Second, Returns, Limited}
use Rattle.sp_commands.specs.declared.given.Given.{Given}
use Rattle.sp_commands.specs.declared.graphed.GraphTask.{GraphTask}
use Rattle.sp_commands.specs.Ends.{CameFrom, status_of, reading_outcome}
use Rattle.sp_commands.specs.Run.{windows_text}

-- what the matches of the first query over these bytes give to the second
abbrev pub derived_from : Plan → List Expr → Plan → List ℕ → Bool → Deriving
derived_from q returns second bytes ended =
    let r = read q bytes ended in
    derived returns r.events r.so_far.texts second (whole q r.events (is_end (stop_of r ended))).matches

-- Why there are no more events for the second query: since there are no more for the first, and where that was read to its end, for the limit that
-- was passed, if one was.
abbrev pub second_stop : Stop → Option ℕ → Stop
second_stop End (Some limit) = Failed (Limit limit)
second_stop stop limit = stop

-- what comes to the second query of these bytes, and the status where all lines are written
abbrev pub graph_came : Plan → List Expr → Plan → CameFrom
graph_came q returns second bytes ended =
    let d = derived_from q returns second bytes ended in
    let stop = second_stop (stop_of (read q bytes ended) ended) d.limit in
    record { events = d.events; stop = stop; status = status_of stop }

-- what a graph of plans comes to over these bytes: the lines of the second one
abbrev pub graph_outcome : Plan → List Expr → Plan → List ℕ → Bool → Outcome
graph_outcome q returns second bytes ended = reading_outcome (graph_came q returns second) (windows_text second) bytes ended

abbrev pub IsPlanGraph : Plan → List Expr → Plan → List ℕ → Bool → Outcome → Type 0
IsPlanGraph q returns second bytes ended o = o ≡ graph_outcome q returns second bytes ended

-- The outcome of the texts of two queries and of what the first returns: the fault of the first, else of the second, else of what is returned, else
-- a graph.
pub data TextsOutcome (first second returns : List ℕ) (bytes : List ℕ) (ended : Bool) : Outcome → Type 0 where
  faulty_first : (code at : ℕ) → IsFaulty first code at → TextsOutcome first second returns bytes ended (nothing_for (Query code at))
  faulty_second : (q : Plan) (code at : ℕ) → IsPlanFor first q → IsFaultySecond second code at
      → TextsOutcome first second returns bytes ended (nothing_for (Second code at))
  faulty_returns : (q p : Plan) (code at : ℕ) → IsPlanFor first q → IsSecondFor second p → IsFaultyReturns returns q p code at
      → TextsOutcome first second returns bytes ended (nothing_for (Returns code at))
  runs : (q p : Plan) (own : List Expr) → IsPlanFor first q → IsSecondFor second p → IsReturnsFor returns q p own
      → TextsOutcome first second returns bytes ended (graph_outcome q own p bytes ended)

-- The outcome of a graph of the query that stands there and these texts: the length of the query counts first, then that of the second one, then that
-- of what is returned, and then what they say.
pub data GraphOutcome (place : Place) (second returns : List ℕ) (held : ToldFiles) (bytes : List ℕ) (ended : Bool) : Outcome → Type 0 where
  long_first : IsLonger held query_limit place → GraphOutcome place second returns held bytes ended (nothing_for (Limited query_limit))
  long_second : (content : List ℕ) → HasText held place content → query_limit < length second
      → GraphOutcome place second returns held bytes ended (nothing_for (Limited query_limit))
  long_returns : (content : List ℕ) → HasText held place content → length second ≤ query_limit → query_limit < length returns
      → GraphOutcome place second returns held bytes ended (nothing_for (Limited query_limit))
  of_texts : (content : List ℕ) (o : Outcome) → HasText held place content → length second ≤ query_limit → length returns ≤ query_limit
      → TextsOutcome content second returns bytes ended o → GraphOutcome place second returns held bytes ended o

-- ---- its parts

-- The plans and expressions stand for the texts.
pub record AreFor (first second returns : List ℕ) (task : GraphTask) : Type 0 where
  pub first_is : IsPlanFor first task.first
  pub second_is : IsSecondFor second task.second
  pub returns_are : IsReturnsFor returns task.first task.second task.returns.items

-- the texts are refused, whatever the input is, or memory ran out
abbrev pub RefusesTexts : List ℕ → List ℕ → List ℕ → Status → Type 0
RefusesTexts first second returns status =
    (status ≡ Memory)
    ⊎ ((status ≢ Read) × ((bytes : List ℕ) (ended : Bool) → TextsOutcome first second returns bytes ended (nothing_for status)))

-- They stand for the text of the query that stands there and for these texts, which are within their limit.
pub record IsTask (held : ToldFiles) (place : Place) (second returns : List ℕ) (task : GraphTask) : Type 0 where
  pub first : List ℕ
  pub stands : HasText held place first
  pub short_second : length second ≤ query_limit
  pub short_returns : length returns ≤ query_limit
  pub are : AreFor first second returns task

-- the graph is refused, whatever the input is, or memory ran out, or the query's file could not be loaded
abbrev pub RefusesGraph : ToldFiles → Place → List ℕ → List ℕ → Status → Type 0
RefusesGraph held place second returns status =
    (status ≡ Read)
    ⊎ ((status ≡ Memory)
    ⊎ ((status ≢ Read) × ((bytes : List ℕ) (ended : Bool) → GraphOutcome place second returns held bytes ended (nothing_for status))))

-- What matches gave to a second query is at hand, where there was nothing more for the first one, and so is the status where all lines are written.
pub record IsSecondGiven (stop : Stop) (d : Deriving) (given : Given) : Type 0 where
  pub events : given.events.items ≡ d.events
  pub ended : is_end given.stop ≡ is_end (second_stop stop d.limit)
  pub status : given.status ≡ status_of (second_stop stop d.limit)
