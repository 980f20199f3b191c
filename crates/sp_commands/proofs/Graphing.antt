-- A graph as what is promised of it: its texts, and its run.
use Rattle.std.proofs.Common.{◌⊎◌, ◌≡◌, ◌≢◌, ◌<◌, ◌≤◌, inl, inr, ⊎_elim, ℕ, Bool, true, false, List, [], Option, Some, None, Ok, Err, refl, ap, sym, subst, ◌∙◌}
use Rattle.std.specs.Prelude.{Result, IfErr, length, map, string_bytes}
use Rattle.std.specs.declared.alloc.AllocError.{AllocError}
use Rattle.sp_base.specs.Limits.{query_limit}
use Rattle.sp_cut.specs.Growth.{RowsStay}
use Rattle.sp_io.specs.Outside.{ToldFiles}
use Rattle.sp_plan.specs.declared.plan.Expr.{Expr}
use Rattle.sp_plan.specs.declared.plan.Plan.{Plan}
use Rattle.sp_plan.specs.Sequential.{whole}
use Rattle.sp_plan.specs.Lines.{text}
use Rattle.sp_intake.proofs.Gave.{gave_none}
use Rattle.sp_graph.specs.Derived.{Deriving, derived}
use Rattle.sp_intake.specs.Intake.{ReadsNamed, TakesNoFurther}
use Rattle.sp_intake.specs.Reading.{read, stop_of}
use Rattle.sp_intake.specs.declared.input.NamedEvents.{NamedEvents}
use Rattle.sp_ports.specs.Stopping.{is_end}
use Rattle.sp_ports.specs.declared.stop.Failure.{Failure}
use Rattle.sp_ports.specs.declared.stop.Failure.TheVariants.{Row, Limit}
use Rattle.sp_ports.specs.declared.stop.Stop.{Stop}
use Rattle.sp_ports.specs.declared.stop.Stop.TheVariants.{End, Failed, Open}
use Rattle.sp_load.specs.Places.{Place, HasText}
use Rattle.sp_load.specs.Loads.{IsUnread, RefusesLoad}
use Rattle.sp_load.specs.Queries.{IsPlanFor, RefusesText}
use Rattle.sp_load.specs.Seconds.{RefusesSecond}
use Rattle.sp_load.specs.declared.refusal.Refusal.{Refusal}
use Rattle.sp_load.specs.declared.refusal.Refusal.TheVariants as r
use Rattle.sp_answer.specs.Outcome.{Outcome, Ending, ending, nothing_for, number_of}
use Rattle.sp_answer.specs.Ran.{Outside, Ran}
use Rattle.sp_answer.specs.Promise.{Filed, by_memory, by_refusal, by_run, SameCounts, Served}
use Rattle.sp_answer.specs.declared.status.Status.{Status}
use Rattle.sp_answer.specs.declared.status.Status.TheVariants.{Memory, Read, Write, Input, Limited}
use Rattle.sp_answer.specs.Written.{WritesText}
use Rattle.sp_answer.specs.declared.written.Written.{Written}
use Rattle.sp_answer.proofs.Answering.{ran_weaker}
use Rattle.sp_commands.specs.Commands.{files_at}
use Rattle.sp_commands.specs.Ends.{Came, came, status_of, status_of_refusal, status_of_second, written_status}
use Rattle.sp_commands.specs.Given.{StopsInTime}
use Rattle.sp_commands.specs.declared.given.Given.{Given}
use Rattle.sp_commands.specs.declared.graphed.GraphTask.{GraphTask}
use Rattle.sp_commands.specs.Graph.{derived_from, second_stop, graph_came, IsPlanGraph, TextsOutcome, faulty_first, faulty_second, GraphOutcome, long_first, long_second, long_returns, of_texts, RefusesTexts, RefusesGraph, IsSecondGiven}
use Rattle.sp_commands.specs.Run.{windows_text}
use Rattle.sp_commands.proofs.Came.{IsTold, came_told, came_open, IsWay, strict_way}
use Rattle.sp_commands.proofs.Running.{strict_in_time, none_in_time, IsReading, reading_is, no_further_reading, unread, written, quiet_served, fault_served, own_name}

-- ---- texts

-- a fault of the first query's text refuses the texts
pub first_faulty : (first second returns : List ℕ) (refusal : Refusal) (s : Status) → s ≡ status_of_refusal refusal → RefusesText first refusal → RefusesTexts first second returns s
first_faulty first second returns r.Memory s is refuses = inl is
first_faulty first second returns (r.Query code at) s is refuses =
    subst (RefusesTexts first second returns) (sym is) (inr ((λ e. cc), (λ b e. faulty_first code at refuses)))
first_faulty first second returns r.Read s is refuses = absurd refuses
first_faulty first second returns (r.Limited limit) s is refuses = absurd refuses

-- and one of the second's, where the first has a plan
pub second_faulty : (first second returns : List ℕ) (q : Plan) → IsPlanFor first q → (refusal : Refusal) (s : Status) → s ≡ status_of_second refusal → RefusesSecond second refusal → RefusesTexts first second returns s
second_faulty first second returns q plan r.Memory s is refuses = inl is
second_faulty first second returns q plan (r.Query code at) s is refuses =
    subst (RefusesTexts first second returns) (sym is) (inr ((λ e. cc), (λ b e. faulty_second q code at plan refuses)))
second_faulty first second returns q plan r.Read s is refuses = absurd refuses
second_faulty first second returns q plan (r.Limited limit) s is refuses = absurd refuses

module _ (held : ToldFiles) (place : Place) (second returns : List ℕ) where
  -- the text of the first query is refused before the others
  pub load_refuses : (refusal : Refusal) (s : Status) → s ≡ status_of_refusal refusal → RefusesLoad held query_limit place refusal → RefusesGraph held place second returns s
  load_refuses r.Memory s is refuses = inr (inl is)
  load_refuses r.Read s is refuses = inl is
  load_refuses (r.Limited told) s is refuses =
      subst (RefusesGraph held place second returns) (sym (is ∙ ap Limited refuses.0)) (inr (inr ((λ e. cc), (λ b e. long_first refuses.1))))
  load_refuses (r.Query code at) s is refuses = absurd refuses

  -- texts within their limit refuse the graph by what they say
  texts_refuse : (first : List ℕ) → HasText held place first → length second ≤ query_limit → length returns ≤ query_limit → (s : Status) → RefusesTexts first second returns s → RefusesGraph held place second returns s
  texts_refuse first has short-second short-returns s (inl memory) = inr (inl memory)
  texts_refuse first has short-second short-returns s (inr other) = inr (inr (other.0, (λ b e. of_texts first (nothing_for s) has short-second short-returns (other.1 b e))))

  -- so does a second query that is too long
  pub second_refuses : (first : List ℕ) → HasText held place first → query_limit < length second → (s : Status) → s ≡ Limited query_limit → RefusesGraph held place second returns s
  second_refuses first has long s is = subst (RefusesGraph held place second returns) (sym is) (inr (inr ((λ e. cc), (λ b e. long_second first has long))))

  -- and returns that are
  pub returns_refuse : (first : List ℕ) → HasText held place first → length second ≤ query_limit → query_limit < length returns → (s : Status) → s ≡ Limited query_limit → RefusesGraph held place second returns s
  returns_refuse first has short long s is = subst (RefusesGraph held place second returns) (sym is) (inr (inr ((λ e. cc), (λ b e. long_returns first has short long))))

  pub texts_refused : (first : List ℕ) → HasText held place first → length second ≤ query_limit → length returns ≤ query_limit → (answer : Result GraphTask Status)
      → IfErr answer (RefusesTexts first second returns) → IfErr answer (RefusesGraph held place second returns)
  texts_refused first has short-second short-returns (Ok task) refuses = tt
  texts_refused first has short-second short-returns (Err s) refuses = texts_refuse first has short-second short-returns s refuses

-- ---- the stop

-- the second query's events stop open where the first's do
open_before : (stop : Stop) (limit : Option ℕ) → second_stop stop limit ≡ Open → stop ≡ Open
open_before End None e = cc
open_before End (Some limit) e = cc
open_before (Failed failure) limit e = cc
open_before Open limit e = refl

open_behind : (stop : Stop) (limit : Option ℕ) → stop ≡ Open → second_stop stop limit ≡ Open
open_behind End limit e = cc
open_behind (Failed failure) limit e = cc
open_behind Open limit e = refl

-- and end where they do
end_before : (stop : Stop) (limit : Option ℕ) → second_stop stop limit ≡ End → stop ≡ End
end_before End None e = refl
end_before End (Some limit) e = cc
end_before (Failed failure) limit e = cc
end_before Open limit e = cc

-- what is told of a stop
record StopTold (ended : Bool) (stop : Stop) : Type 0 where
  not_cut : (status_of stop ≡ Memory) ⊎ (status_of stop ≡ Write) → ⊥
  only_end : number_of (status_of stop) ≡ 0 → (stop ≡ End) × (ended ≡ true)

failed_told : (ended : Bool) (failure : Failure) → StopTold ended (Failed failure)
failed_told ended (Row code row column) = record { not_cut = ⊎_elim (λ e. cc) (λ e. cc); only_end = λ e. cc }
failed_told ended (Limit limit) = record { not_cut = ⊎_elim (λ e. cc) (λ e. cc); only_end = λ e. cc }

stop_told : (ended : Bool) (stop : Stop) (limit : Option ℕ) → (stop ≡ End → ended ≡ true) → StopTold ended (second_stop stop limit)
stop_told ended End None is = record { not_cut = ⊎_elim (λ e. cc) (λ e. cc); only_end = λ e. (refl, is refl) }
stop_told ended End (Some limit) is = failed_told ended (Limit limit)
stop_told ended (Failed failure) limit is = failed_told ended failure
stop_told ended Open limit is = record { not_cut = ⊎_elim (λ e. cc) (λ e. cc); only_end = λ e. cc }

read_open : (stop : Stop) → status_of stop ≡ Read → stop ≡ Open
read_open End e = cc
read_open (Failed (Row code row column)) e = cc
read_open (Failed (Limit limit)) e = cc
read_open Open e = refl

-- a status that tells of a row is that of its fault
row_failed : (stop : Stop) (code row column : ℕ) → status_of stop ≡ Input code row column → stop ≡ Failed (Row code row column)
row_failed End code row column e = cc
row_failed (Failed (Row c x y)) code row column e = ap (λ (s : Status). failure_in s) e
  where
    failure_in : Status → Stop
    failure_in (Input c x y) = Failed (Row c x y)
    failure_in s = Open
row_failed (Failed (Limit limit)) code row column e = cc
row_failed Open code row column e = cc

module _ (q : Plan) (own : List Expr) (p : Plan) where
  -- where the input was read to its end it has ended
  graph_told : (bytes : List ℕ) (ended : Bool) → IsTold ended (graph_came q own p bytes ended)
  graph_told bytes ended =
      let first = came_told q bytes ended in
      let stop = stop_of (read q bytes ended) ended in
      let limit = (derived_from q own p bytes ended).limit in
      let told = stop_told ended stop limit (λ e. (first.only_end (first.done e)).1) in
      record {
        not_cut = told.not_cut;
        only_open = read_open (second_stop stop limit);
        is_read = λ e. ap status_of e;
        only_end = told.only_end;
        done = λ e. ap (λ (s : Stop). number_of (status_of s)) e;
      }

  -- what may go on for the first query may go on for the second
  goes_on : (bytes : List ℕ) → (came q bytes false).status ≡ Read → (graph_came q own p bytes false).status ≡ Read
  goes_on bytes e =
      ap status_of (open_behind (stop_of (read q bytes false) false) (derived_from q own p bytes false).limit (read_open (stop_of (read q bytes false) false) e))

  -- a graph's events come as those of any input do
  pub graph_way : RowsStay → IsWay (graph_came q own p)
  graph_way stay =
      let first = strict_way stay q in
      record {
        told = graph_told;
        nothing =
            let limit = (derived_from q own p [] true).limit in
            let failed = row_failed (stop_of (read q [] true) true) 1 0 0 first.nothing in
            ap (λ (s : Stop). status_of (second_stop s limit)) failed;
        goes_on = λ bytes more e. goes_on bytes (first.goes_on bytes more (end_before _ _ e));
      }

  graph_in_time : (taken : List ℕ) → TakesNoFurther q taken → StopsInTime (graph_came q own p) taken
  graph_in_time taken no_further =
      let first = strict_in_time q taken no_further in
      record {
        front = first.front;
        piece = first.piece;
        are = first.are;
        short = first.short;
        goes_on = goes_on first.front first.goes_on;
      }

  -- ---- its run

  module _ (old new : Outside) where
    -- memory ran out before anything was written
    pub graph_short : (result : Result NamedEvents AllocError) → ReadsNamed q old.input new.input result → new.out ≡ old.out → Ran (IsPlanGraph q own p) old new (ending Memory)
    graph_short result reads same = unread (graph_came q own p) (windows_text p) old new reads.reads.taken reads.reads.gave (graph_in_time reads.reads.taken reads.reads.no_further) same

    module _ (named : NamedEvents) (reads : ReadsNamed q old.input new.input (Ok named)) where
      abbrev bytes : List ℕ
      bytes = reads.reads.taken

      abbrev matched : Deriving
      matched = derived own named.events.items (map string_bytes named.texts.items) p (whole q named.events.items (is_end named.stop)).matches

      derived_same : matched ≡ derived_from q own p bytes new.input.ended
      derived_same =
          (λ i. derived own (reads.reads.events i) (reads.texts i) p (whole q (reads.reads.events i) (is_end (reads.reads.stop i))).matches)

      -- what came to the second query
      abbrev here : Came
      here =
          let stop = second_stop named.stop matched.limit in
          record { events = matched.events; stop = stop; status = status_of stop }

      here_is : here ≡ graph_came q own p bytes new.input.ended
      here_is =
          (λ i.
          let d = derived_same i in
          let stop = second_stop (reads.reads.stop i) d.limit in
          let c : Came = record { events = d.events; stop = stop; status = status_of stop } in
          c)

      -- the lines of the second query were written, behind what its events are and why they stop
      ran_by : (result : Result Written AllocError) → WritesText (windows_text p here.events here.stop) old.out new.out result
          → (s : Status) → s ≡ written_status here.status result → Ran (IsPlanGraph q own p) old new (ending s)
      ran_by =
          written (IsReading (graph_came q own p) (windows_text p)) old new bytes reads.reads.gave
          (no_further_reading (graph_came q own p) (windows_text p) bytes (graph_in_time bytes reads.reads.no_further)) here (windows_text p here.events here.stop)
          (reading_is (graph_came q own p) (windows_text p) bytes new.input.ended here here_is)
          (subst (IsTold new.input.ended) (sym here_is) (graph_told bytes new.input.ended))
          (λ e. reads.reads.fault (open_before named.stop matched.limit e)) (λ rose. open_behind named.stop matched.limit (reads.reads.told rose))

      pub graph_ran : (given : Given) → IsSecondGiven named.stop matched given → (result : Result Written AllocError)
          → WritesText (text p (whole p given.events.items (is_end given.stop)).matches) old.out new.out result → (s : Status) → s ≡ written_status given.status result → Ran (IsPlanGraph q own p) old new (ending s)
      graph_ran given is result writes s status =
          ran_by result (subst (λ (l : List ℕ). WritesText l old.out new.out result) (λ i. text p (whole p (is.events i) (is.ended i)).matches) writes) s
          (status ∙ ap (λ (t : Status). written_status t result) is.status)

-- memory ran out before anything was read
pub graph_unread : (q : Plan) (own : List Expr) (p : Plan) (old : Outside) → Ran (IsPlanGraph q own p) old old (ending Memory)
graph_unread q own p old =
    unread (graph_came q own p) (windows_text p) old old [] (gave_none old.input.left) (none_in_time (graph_came q own p) (goes_on q own p [] (came_open q [] refl))) refl

-- ---- what is answered

module _ (place : Place) (second returns : List ℕ) (before after_ : Filed) (old : Outside) (same_files : after_.held ≡ before.held) where
  -- a graph of what the texts ask for was run
  pub graph_served : (new : Outside) (q p : Plan) (own : List Expr) (first : List ℕ) → HasText before.held place first → length second ≤ query_limit → length returns ≤ query_limit
      → ((b : List ℕ) (e : Bool) (o : Outcome) → IsPlanGraph q own p b e o → TextsOutcome first second returns b e o)
      → SameCounts before after_ → (end : Ending) → Ran (IsPlanGraph q own p) old new end → Served (files_at place) (GraphOutcome place second returns) before after_ old new end
  graph_served new q p own first has short-second short-returns is same end ran =
      quiet_served (files_at place) (GraphOutcome place second returns) before after_ old same_files new end same
      (by_run (ran_weaker (IsPlanGraph q own p) (GraphOutcome place second returns before.held) old new end (λ b e o so. of_texts first o has short-second short-returns (is b e o so)) ran))

  -- a graph was refused
  pub graph_refused : (s : Status) → RefusesGraph before.held place second returns s → (s ≡ Read → IsUnread place before.faults after_.faults) → (s ≢ Read → SameCounts before after_)
      → Served (files_at place) (GraphOutcome place second returns) before after_ old old (ending s)
  graph_refused s (inl read) unread same =
      let fault = unread read in
      fault_served (files_at place) (GraphOutcome place second returns) before after_ old same_files s read (fault.name, own_name place fault.name fault.is_file, fault.rose)
  graph_refused s (inr (inl memory)) unread same =
      quiet_served (files_at place) (GraphOutcome place second returns) before after_ old same_files old (ending s) (same (λ e. let clash : Memory ≡ Read = sym memory ∙ e in absurd (cc clash)))
      (by_memory (ap ending memory) refl)
  graph_refused s (inr (inr other)) unread same =
      quiet_served (files_at place) (GraphOutcome place second returns) before after_ old same_files old (ending s) (same other.0)
      (by_refusal (record { is = other.1; line = refl; same = refl }))
