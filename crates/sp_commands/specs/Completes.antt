-- Where nothing stands in the way, a call answers done or want of memory.
use Rattle.std.specs.Prelude.{◌≡◌, ◌⊎◌, ◌≤◌, ℕ, ℤ, Bool, true, List, [], length, Some}
use Rattle.sp_base.specs.Marks.{without_mark}
use Rattle.sp_base.specs.Limits.{query_limit, schedule_limit}
use Rattle.sp_io.specs.Outside.{SourceState, SinkState, ToldFiles, Grew, Rose, first_file}
use Rattle.sp_plan.specs.declared.event.Event.{Event}
use Rattle.sp_plan.specs.declared.plan.Expr.{Expr}
use Rattle.sp_plan.specs.declared.plan.Plan.{Plan}
use Rattle.sp_plan.specs.Lines.{text}
use Rattle.sp_plan.specs.Sequential.{whole}
use Rattle.sp_sched.specs.Schedules.{IsSchedule}
use Rattle.sp_sched.specs.declared.step.TraceStep.{TraceStep}
use Rattle.sp_slack.specs.declared.late.LateRule.{LateRule}
use Rattle.sp_trace.specs.Traced.{traced}
use Rattle.sp_ports.specs.declared.stop.Stop.TheVariants.{End}
use Rattle.sp_load.specs.Places.{Place, word, file}
use Rattle.sp_load.specs.Queries.{IsPlanFor}
use Rattle.sp_load.specs.Seconds.{IsSecondFor}
use Rattle.sp_returns.specs.Told.{IsReturnsFor}
use Rattle.sp_answer.specs.Ran.{Outside}
use Rattle.sp_answer.specs.Promise.{Filed, NoFaultRose}
use Rattle.sp_cli.specs.Commands.{Speed, QuerySource, run, plain, trace, drill, check, graph}
use Rattle.sp_drill.specs.Query.{drill_query}
use Rattle.sp_commands.specs.Commands.{place_of, lateness, IsCall, GivesFiles}
use Rattle.sp_commands.specs.Drill.{drill_text}
use Rattle.sp_listing.specs.Limits.{listing_limit}
use Rattle.sp_listing.specs.Listing.{Entry, IsListing}
use Rattle.sp_cert.specs.Proofs.{proofs}
use Rattle.sp_commands.specs.Ends.{CameFrom, came, came_within}
use Rattle.sp_commands.specs.Run.{text_by}
use Rattle.sp_commands.specs.Check.{yes_line}
use Rattle.sp_commands.specs.Graph.{graph_came}
use Rattle.sp_commands.specs.Outcome.{Promise}

-- The query's text stands there and is within its limit; of a file the bytes are told.
pub data StandsAt (files : ToldFiles) : Place → List ℕ → Type 0 where
  in_word : (query_text : List ℕ) → length query_text ≤ query_limit → StandsAt files (word query_text) query_text
  in_file : (told : List (List ℕ × List ℕ)) (name content : List ℕ) → files ≡ Some told → first_file told name ≡ Some content → length content ≤ query_limit
      → StandsAt files (file name) (without_mark content)

-- The file of this name is told, within its limit, and is a schedule of these steps.
pub record TellsSchedule (files : ToldFiles) (name : List ℕ) (steps : List TraceStep) : Type 0 where
  pub told : List (List ℕ × List ℕ)
  pub content : List ℕ
  pub are : files ≡ Some told
  pub holds : first_file told name ≡ Some content
  pub short : length content ≤ schedule_limit
  pub is : IsSchedule content steps

-- the text of the matches of all windows of these events
abbrev pub whole_text : Plan → List Event → List ℕ
whole_text q events = text q (whole q events true).matches

-- The words are a command whose predictors are there and whose query compiles; where it is a trace the schedule has no bad line, and where it is a
-- graph the second query and what the first one returns have no fault. This comes of bytes by the plans, and this is the text that the command gives
-- for events that came whole.
pub data AsksFor (predictors words : List (List ℕ)) (files : ToldFiles) : CameFrom → (List Event → List ℕ) → Type 0 where
  for_run : (q : Plan) (source : QuerySource) (speed : Speed) (slack : ℤ) (late : LateRule) (trees : ℕ) (proof : Bool) (query : List ℕ)
      → IsCall predictors words (run source speed slack late trees proof) → StandsAt files (place_of source) query → IsPlanFor query q
      → AsksFor predictors words files (came_within q (lateness slack late)) (λ events. text_by proof q events End)
  for_plain : (q : Plan) (source : QuerySource) (slack : ℤ) (late : LateRule) (query : List ℕ) → IsCall predictors words (plain source slack late)
      → StandsAt files (place_of source) query → IsPlanFor query q → AsksFor predictors words files (came_within q (lateness slack late)) (whole_text q)
  for_trace : (q : Plan) (source : QuerySource) (query schedule : List ℕ) (bound : ℕ) (steps : List TraceStep) → IsCall predictors words (trace source schedule bound)
      → StandsAt files (place_of source) query → IsPlanFor query q → TellsSchedule files schedule steps
      → AsksFor predictors words files (came q) (λ events. traced q bound events steps)
  for_graph : (q p : Plan) (own : List Expr) (source : QuerySource) (query second returns : List ℕ) (speed : Speed)
      → IsCall predictors words (graph source second returns speed) → StandsAt files (place_of source) query → IsPlanFor query q
      → length second ≤ query_limit → IsSecondFor second p → length returns ≤ query_limit → IsReturnsFor returns q p own
      → AsksFor predictors words files (graph_came q own p) (whole_text p)

-- The input has just these bytes, and the reading of all of them stops at their end, at no faulty row and at no limit.
pub record ReadsToEnd (way : CameFrom) (input : SourceState) (bytes : List ℕ) : Type 0 where
  pub told : input.left ≡ Some bytes
  pub stop : (way bytes true).stop ≡ End

-- No count of faults rose: not that of the input, nor of the output, nor of a file that the words give.
abbrev pub NoneRose : List (List ℕ) → List (List ℕ) → Filed → Filed → Outside → Outside → Type 0
NoneRose predictors words before after old new = (names : List (List ℕ)) → GivesFiles predictors words names → NoFaultRose names before after old new

-- The call is done: nothing of the input is left, and the output grew by the whole text for all its events.
pub record IsDone (text_for : List Event → List ℕ) (way : CameFrom) (bytes : List ℕ) (old new : Outside) (result : ℕ) : Type 0 where
  pub number : result ≡ 0
  pub nothing_left : new.input.left ≡ Some []
  pub text : Grew old.out.held (text_for (way bytes true).events) new.out.held

-- Words that ask for a text, input that is read to its end, and no fault: whatever call keeps the promise is done, or answers want of memory.
abbrev pub Completes : Type 0
Completes = (predictors words : List (List ℕ)) (before after : Filed) (old new : Outside) (err_old err_new : SinkState) (result : ℕ) (way : CameFrom) (bytes : List ℕ)
    (text_for : List Event → List ℕ)
    → Promise predictors words before after old new err_old err_new result
    → AsksFor predictors words before.held way text_for → ReadsToEnd way old.input bytes → NoneRose predictors words before after old new
    → IsDone text_for way bytes old new result ⊎ (result ≡ 1)

-- A drill was done: the output grew by its text.
pub record IsDrilled (events seed : ℕ) (old new : SinkState) (result : ℕ) : Type 0 where
  pub plan : Plan
  pub is : IsPlanFor drill_query plan
  pub number : result ≡ 0
  pub text : Grew old.held (drill_text plan events seed) new.held

-- Words that ask for a drill, and no fault of the output: whatever call keeps the promise is done, or answers want of memory.
abbrev pub DrillCompletes : Type 0
DrillCompletes = (predictors words : List (List ℕ)) (before after : Filed) (old new : Outside) (err_old err_new : SinkState) (result : ℕ)
    (events seed : ℕ) (speed : Speed)
    → Promise predictors words before after old new err_old err_new result
    → IsCall predictors words (drill events seed speed) → (Rose old.out.faults new.out.faults → ⊥)
    → IsDrilled events seed old.out new.out result ⊎ (result ≡ 1)

-- The file of this name is told, within its limit, and is the listing of these entries by the plan.
pub record TellsListing (files : ToldFiles) (name : List ℕ) (q : Plan) (entries : List Entry) : Type 0 where
  pub told : List (List ℕ × List ℕ)
  pub content : List ℕ
  pub are : files ≡ Some told
  pub holds : first_file told name ≡ Some content
  pub short : length content ≤ listing_limit
  pub is : IsListing q content entries

-- The words ask for a check whose query compiles to this plan and whose listing is that of these entries.
pub record AsksToCheck (predictors words : List (List ℕ)) (files : ToldFiles) (q : Plan) (entries : List Entry) : Type 0 where
  pub source : QuerySource
  pub list : List ℕ
  pub query : List ℕ
  pub call : IsCall predictors words (check source list)
  pub stands : StandsAt files (place_of source) query
  pub plan : IsPlanFor query q
  pub listing : TellsListing files list q entries

-- Words that ask for a check, input that is read to its end, a listing that is that of the run, and no fault: whatever call keeps the promise is done
-- and has written the line of a listing that is right, or answers want of memory.
abbrev pub CheckCompletes : Type 0
CheckCompletes = (predictors words : List (List ℕ)) (before after : Filed) (old new : Outside) (err_old err_new : SinkState) (result : ℕ) (q : Plan)
    (entries : List Entry) (bytes : List ℕ)
    → Promise predictors words before after old new err_old err_new result
    → AsksToCheck predictors words before.held q entries → ReadsToEnd (came q) old.input bytes → entries ≡ proofs q (came q bytes true).events true
    → NoneRose predictors words before after old new
    → IsDone (λ events. yes_line entries) (came q) bytes old new result ⊎ (result ≡ 1)
