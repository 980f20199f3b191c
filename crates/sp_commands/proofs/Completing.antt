-- Where nothing stands in the way, a call answers done or want of memory.
use Rattle.std.proofs.Common.{◌⊎◌, ◌≡◌, ◌≢◌, inl, inr, ℕ, ◌≤◌, Bool, true, false, List, [], ◌++◌, length, Some, None, refl, sym, ◌∙◌, ap, subst, arith}
use Rattle.std.proofs.lemmas.List.{append-nil}
use Rattle.std.specs.List.{Contains}
use Rattle.sp_base.specs.Marks.{without_mark}
use Rattle.sp_base.specs.Limits.{query_limit, schedule_limit}
use Rattle.sp_cut.specs.Growth.{RowsStay}
use Rattle.sp_io.specs.Outside.{Told, ToldFiles, SinkState, Gave, Grew, IsUsedUp, Rose, HoldsFile, HoldsLonger, first_file}
use Rattle.sp_plan.specs.declared.event.Event.{Event}
use Rattle.sp_plan.specs.declared.plan.Expr.{Expr}
use Rattle.sp_plan.specs.declared.plan.Plan.{Plan}
use Rattle.sp_sched.specs.Schedules.{OneSchedule}
use Rattle.sp_sched.specs.declared.step.TraceStep.{TraceStep}
use Rattle.sp_listing.specs.Limits.{listing_limit}
use Rattle.sp_listing.specs.Listing.{Entry, OneListing}
use Rattle.sp_cert.specs.Proofs.{proofs}
use Rattle.sp_ports.specs.Stopping.{is_end}
use Rattle.sp_ports.specs.declared.stop.Stop.{Stop}
use Rattle.sp_ports.specs.declared.stop.Stop.TheVariants.{End}
use Rattle.sp_intake.specs.Loose.{Lateness}
use Rattle.sp_load.specs.Places.{Place, HasText, IsLonger, long_word, long_file}
use Rattle.sp_load.specs.Places as places
use Rattle.sp_load.specs.Queries.{IsPlanFor, IsFaulty}
use Rattle.sp_load.specs.Seconds.{IsSecondFor}
use Rattle.sp_returns.specs.Told.{IsReturnsFor}
use Rattle.sp_load.specs.Laws.{OneReading}
use Rattle.sp_load.proofs.OneTextLaws.{not_longer}
use Rattle.sp_answer.specs.declared.status.Status.{Status}
use Rattle.sp_answer.specs.declared.status.Status.TheVariants.{Done, DoneLate, Memory, Usage, Query, Second, Returns, Input, Read, Write, Limited, Schedule, ListingLine, ListingWindow}
use Rattle.sp_answer.specs.Outcome.{Outcome, Ending, number_of}
use Rattle.sp_answer.specs.Ran.{Outside, Ran, Made}
use Rattle.sp_answer.specs.Promise.{Filed, Answered, by_memory, by_file, by_refusal, by_run, by_itself, Refused}
use Rattle.sp_cli.specs.Commands.{Command, run, plain, trace, check, graph}
use Rattle.sp_commands.specs.Commands.{place_of, lateness, IsCall}
use Rattle.sp_commands.specs.Check.{yes_line, ListingOutcome, stopped, right, wrong, TextsOutcome as CheckTexts, faulty as faulty_query, bad_line, checks, CheckOutcome}
use Rattle.sp_commands.specs.Completes.{StandsAt, in_word, in_file, TellsSchedule, for_run, for_plain, for_trace, for_graph, TellsListing, ReadsToEnd, NoneRose, IsDone, Completes, CheckCompletes}
use Rattle.sp_commands.specs.Ends.{CameFrom, came, came_within, reading_outcome}
use Rattle.sp_commands.specs.Graph.{graph_came, graph_outcome, TextsOutcome as GraphTexts, runs as runs_graph, GraphOutcome, long_first, long_second, long_returns, of_texts as of_graph_texts}
use Rattle.sp_commands.specs.Outcome.{IsOutcome, CommandOutcome, Promise}
use Rattle.sp_commands.specs.Run.{text_by, told_outcome, windows_text, ToldOutcome, too_long, faulty, runs}
use Rattle.sp_commands.specs.Texts.{HasFile}
use Rattle.sp_commands.specs.Trace.{trace_text, trace_outcome, TextsOutcome, traces, TraceOutcome}
use Rattle.sp_commands.proofs.Came.{IsWay, strict_way, late_way}
use Rattle.sp_commands.proofs.Checking.{files_of_check, not_end}
use Rattle.sp_commands.proofs.Graphing.{graph_way}
use Rattle.sp_commands.proofs.OneCheck.{check_by, not_bad, not_both, same_differ_not}
use Rattle.sp_commands.proofs.OneCommand.{one_command}
use Rattle.sp_commands.proofs.OneGraph.{GraphLaws, one_graph}
use Rattle.sp_commands.proofs.OneOutcome.{one_run, one_texts}
use Rattle.sp_commands.proofs.OneRun.{OneTruth}
use Rattle.sp_commands.proofs.Tracing.{files_of_trace}
use Rattle.sp_commands.proofs.TwoTexts.{OfBoth, FilesOutcome, long_query, long_file, of_texts}

-- ---- what is told

-- what was given are the first of the bytes
gave_first : (bytes taken : List ℕ) (new : Told) → Gave (Some bytes) taken new → (more : List ℕ) × (bytes ≡ taken ++ more)
gave_first bytes taken (Some left) gave = (left, gave)
gave_first bytes taken None gave = absurd gave

-- and all of them where nothing is left
pub gave_all : (bytes taken : List ℕ) (new : Told) → Gave (Some bytes) taken new → IsUsedUp new → (taken ≡ bytes) × (new ≡ Some [])
gave_all bytes taken (Some left) gave used_up = (sym (gave ∙ ap (λ (more : List ℕ). taken ++ more) used_up ∙ append-nil taken), ap Some used_up)
gave_all bytes taken None gave used_up = absurd gave

-- ---- the one outcome

-- what stands there is within the limit
within_limit : (files : ToldFiles) (place : Place) (text : List ℕ) → StandsAt files place text → IsLonger files query_limit place → ⊥
within_limit _ _ _ (in_word text short) (long_word _ long) = omega (arith, long, short)
within_limit files _ _ (in_file told name content are holds short) (long_file _ long) =
    not_longer told name content query_limit holds short (subst (λ (fs : ToldFiles). HoldsLonger fs name query_limit) are long)

-- and is one text
text_there : (files : ToldFiles) (place : Place) (text other : List ℕ) → StandsAt files place text → HasText files place other → other ≡ text
text_there _ _ _ _ (in_word text short) (places.in_word _ short') = refl
text_there files _ _ _ (in_file told name content are holds short) (places.in_file _ other holds' short') =
    let there : first_file told name ≡ Some other = subst (λ (fs : ToldFiles). HoldsFile fs name other) are holds' in
    let both : Some other ≡ Some content = sym there ∙ holds in
    let same : other ≡ content = cc both in
    ap without_mark same

module _ (reading : OneReading) (truth : OneTruth) (files : ToldFiles) (q : Plan) (place : Place) (query : List ℕ) (compiles : IsPlanFor query q) (stands : StandsAt files place query) (bytes : List ℕ) (ended : Bool) where
  -- a query that compiles has no other outcome than its run
  run_at : (proof : Bool) (l : Lateness) (o : Outcome) → ToldOutcome (text_by proof) place l files bytes ended o → o ≡ told_outcome (text_by proof) q l bytes ended
  run_at proof l _ (too_long long) = absurd (within_limit files place query stands long)
  run_at proof l _ (faulty code at fault) =
      absurd (reading.apart query q code at compiles (subst (λ (t : List ℕ). IsFaulty t code at) (text_there files place query fault.0 stands fault.1) fault.2))
  run_at proof l _ (runs p plan) =
      one_run reading truth query p q (subst (λ (t : List ℕ). IsPlanFor t p) (text_there files place query plan.0 stands plan.1) plan.2) compiles proof l bytes ended

  module _ (name : List ℕ) (limit : ℕ) (told : List (List ℕ × List ℕ)) (content : List ℕ) (are : files ≡ Some told) (holds : first_file told name ≡ Some content) (short : length content ≤ limit) where
    -- what the file holds is told
    one_content : (other : List ℕ) → HasFile files limit name other → other ≡ content
    one_content other has =
        let there : first_file told name ≡ Some other = subst (λ (fs : ToldFiles). HoldsFile fs name other) are has.0 in
        let both : Some other ≡ Some content = sym there ∙ holds in
        cc both

    -- and with such a file no other than that of both texts
    both_at : (of_both : OfBoth) (o : Outcome) → FilesOutcome limit of_both place name files bytes ended o → of_both query content bytes ended o
    both_at of_both _ (long_query long) = absurd (within_limit files place query stands long)
    both_at of_both _ (long_file other has longer) = absurd (not_longer told name content limit holds short (subst (λ (fs : ToldFiles). HoldsLonger fs name limit) are longer))
    both_at of_both o (of_texts other beside _ has keeps is) =
        subst (λ (c : List ℕ). of_both query c bytes ended o) (one_content beside keeps) (subst (λ (t : List ℕ). of_both t beside bytes ended o) (text_there files place query other stands has) is)

  -- a query with a schedule has no other outcome than the trace by it
  trace_at : (sched : OneSchedule) (name : List ℕ) (bound : ℕ) (steps : List TraceStep) → TellsSchedule files name steps → (o : Outcome) → TraceOutcome place name bound files bytes ended o → o ≡ trace_outcome q bound steps bytes ended
  trace_at sched name bound steps tells o is =
      one_texts reading sched truth query tells.content bound bytes ended o (trace_outcome q bound steps bytes ended)
      (both_at name schedule_limit tells.told tells.content tells.are tells.holds tells.short (λ text schedule. TextsOutcome text schedule bound) o (files_of_trace place name bound files bytes ended o is))
      (traces q steps compiles tells.is)

  -- a query with a listing has no other outcome than that of its entries
  check_at : (law : OneListing) (name : List ℕ) (entries : List Entry) → TellsListing files name q entries → (o : Outcome) → CheckOutcome place name files bytes ended o → ListingOutcome q entries (came q bytes ended) o
  check_at law name entries tells o is = by o (both_at name listing_limit tells.told tells.content tells.are tells.holds tells.short CheckTexts o (files_of_check place name files bytes ended o is))
    where
      by : (o : Outcome) → CheckTexts query tells.content bytes ended o → ListingOutcome q entries (came q bytes ended) o
      by _ (faulty_query code at fault) = absurd (reading.apart query q code at compiles fault)
      by _ (bad_line p line plan bad) = absurd (not_bad reading law truth query tells.content p q entries line plan compiles tells.is bad)
      by o (checks p others _ plan so comes) = check_by reading law truth query tells.content p q others entries plan compiles so tells.is bytes ended o comes

-- the texts of a graph without a fault have no other outcome than its run
module _ (laws : GraphLaws) (files : ToldFiles) (place : Place) (q p : Plan) (own : List Expr) (query second returns : List ℕ) (stands : StandsAt files place query) (compiles : IsPlanFor query q)
    (short-second : length second ≤ query_limit) (second-is : IsSecondFor second p) (short-returns : length returns ≤ query_limit) (are : IsReturnsFor returns q p own) (bytes : List ℕ) (ended : Bool) where
  graph_at : (o : Outcome) → GraphOutcome place second returns files bytes ended o → o ≡ graph_outcome q own p bytes ended
  graph_at _ (long_first long) = absurd (within_limit files place query stands long)
  graph_at _ (long_second text has long) = absurd (omega (arith, long, short-second))
  graph_at _ (long_returns text has short long) = absurd (omega (arith, long, short-returns))
  graph_at _ (of_graph_texts text o has short also is) =
      one_graph laws query second returns bytes ended o (graph_outcome q own p bytes ended)
      (subst (λ (t : List ℕ). GraphTexts t second returns bytes ended o) (text_there files place query text stands has) is) (runs_graph q p own compiles second-is are)

-- there is no other outcome than a reading with this text
abbrev pub IsOnly : (List ℕ → Bool → Outcome → Type 0) → CameFrom → (List Event → Stop → List ℕ) → Type 0
IsOnly P way T = (bytes : List ℕ) (ended : Bool) (o : Outcome) → P bytes ended o → o ≡ reading_outcome way T bytes ended

-- For these bytes there is no other: for all of them none at all, and where bytes are not read to their end none of another status.
record IsOnlyFor (P : List ℕ → Bool → Outcome → Type 0) (way : CameFrom) (T : List Event → Stop → List ℕ) (bytes : List ℕ) : Type 0 where
  whole : (o : Outcome) → P bytes true o → o ≡ reading_outcome way T bytes true
  stopped : (b : List ℕ) (ended : Bool) (o : Outcome) → P b ended o → is_end (way b ended).stop ≡ false → o.status ≡ (way b ended).status

for_all : (P : List ℕ → Bool → Outcome → Type 0) (way : CameFrom) (T : List Event → Stop → List ℕ) (bytes : List ℕ) → IsOnly P way T → IsOnlyFor P way T bytes
for_all P way T bytes only = record { whole = only bytes true; stopped = λ b ended o is early. ap (λ (x : Outcome). x.status) (only b ended o is) }

-- words that are a command have its outcomes alone
of_command : (predictors words : List (List ℕ)) (files : ToldFiles) (command : Command) → IsCall predictors words command → (bytes : List ℕ) (ended : Bool) (o : Outcome)
    → IsOutcome predictors words files bytes ended o → CommandOutcome command files bytes ended o
of_command predictors words files command is bytes ended o (inl none) = absurd (none.0 command is)
of_command predictors words files command is bytes ended o (inr at) = subst (λ (c : Command). CommandOutcome c files bytes ended o) (one_command words at.0 command at.1.0 is.0) at.2

only_by : (predictors words : List (List ℕ)) (files : ToldFiles) (way : CameFrom) (T : List Event → Stop → List ℕ) (command : Command) → IsCall predictors words command
    → ((bytes : List ℕ) (ended : Bool) (o : Outcome) → CommandOutcome command files bytes ended o → o ≡ reading_outcome way T bytes ended) → IsOnly (IsOutcome predictors words files) way T
only_by predictors words files way T command is only bytes ended o comes = only bytes ended o (of_command predictors words files command is bytes ended o comes)

-- ---- the answer

-- a status tells of memory, of the output, or of neither
pub cut_by : (s : Status) → (s ≡ Memory) ⊎ ((s ≡ Write) ⊎ ((s ≢ Memory) × (s ≢ Write)))
cut_by Memory = inl refl
cut_by Write = inr (inl refl)
cut_by Done = inr (inr ((λ e. cc), (λ e. cc)))
cut_by (DoneLate rows) = inr (inr ((λ e. cc), (λ e. cc)))
cut_by Usage = inr (inr ((λ e. cc), (λ e. cc)))
cut_by (Query code place) = inr (inr ((λ e. cc), (λ e. cc)))
cut_by (Second code place) = inr (inr ((λ e. cc), (λ e. cc)))
cut_by (Returns code place) = inr (inr ((λ e. cc), (λ e. cc)))
cut_by (Input code row column) = inr (inr ((λ e. cc), (λ e. cc)))
cut_by Read = inr (inr ((λ e. cc), (λ e. cc)))
cut_by (Limited limit) = inr (inr ((λ e. cc), (λ e. cc)))
cut_by (Schedule line) = inr (inr ((λ e. cc), (λ e. cc)))
cut_by (ListingLine line) = inr (inr ((λ e. cc), (λ e. cc)))
cut_by (ListingWindow window) = inr (inr ((λ e. cc), (λ e. cc)))

module _ (P : List ℕ → Bool → Outcome → Type 0) (old new : Outside) (way : CameFrom) (is_way : IsWay way) (bytes : List ℕ) (T : List Event → Stop → List ℕ) (only : IsOnlyFor P way T bytes)
    (reads : ReadsToEnd way old.input bytes) (no_read : Rose old.input.faults new.input.faults → ⊥) (no_write : Rose old.out.faults new.out.faults → ⊥) (used_up : new.input.ended ≡ true → IsUsedUp new.input.left) where
  -- the status of the whole input is one of success
  done : number_of (way bytes true).status ≡ 0
  done = (is_way.told bytes true).done reads.stop

  whole_text_is : (reading_outcome way T bytes true).text ≡ T (way bytes true).events End
  whole_text_is = ap (T (way bytes true).events) reads.stop

  -- input of no bytes is not read to an end, since it lacks its header
  nothing_early : is_end (way [] true).stop ≡ false
  nothing_early = not_end (way [] true) (is_way.told [] true) (λ e. absurd (omega (arith, e, ap number_of is_way.nothing)))

  -- and the status is not that of such input
  not_nothing : (s : Status) → s ≡ (way bytes true).status → s ≡ (way [] true).status → ⊥
  not_nothing s whole none =
      let faulty : number_of s ≡ 4 = ap number_of (none ∙ is_way.nothing) in
      absurd (omega (arith, faulty, ap number_of whole, done))

  -- a command that asks for a text is not refused: with no bytes its input would lack a header
  not_refused : (end : Ending) → Refused P old new end → ⊥
  not_refused end refused =
      not_nothing end.status (ap (λ (o : Outcome). o.status) (only.whole _ (refused.is bytes true))) (only.stopped [] true _ (refused.is [] true) nothing_early)

  -- nor made without the input
  not_made : (end : Ending) → Made P old new end → ⊥
  not_made end made =
      not_nothing made.outcome.status (ap (λ (o : Outcome). o.status) (only.whole made.outcome (made.is bytes true))) (only.stopped [] true made.outcome (made.is [] true) nothing_early)

  module _ (end : Ending) (ran : Ran P old new end) where
    gave : Gave (Some bytes) ran.taken new.input.left
    gave = subst (λ (t : Told). Gave t ran.taken new.input.left) reads.told ran.gave

    -- where the input has not ended, only its fault could have stopped the reading
    stopped_open : new.input.ended ≡ false → end.status ≡ ran.outcome.status → ⊥
    stopped_open open_ exact =
        let first = gave_first bytes ran.taken new.input.left gave in
        let going = is_way.goes_on ran.taken first.0 (subst (λ (b : List ℕ). (way b true).stop ≡ End) first.1 reads.stop) in
        let early : is_end (way ran.taken false).stop ≡ false = ap is_end ((is_way.told ran.taken false).only_open going) in
        let here : ran.outcome.status ≡ (way ran.taken false).status = only.stopped ran.taken false ran.outcome (subst (λ (b : Bool). P ran.taken b ran.outcome) open_ ran.is) early in
        no_read (ran.read_fault (exact ∙ here ∙ going))

    -- where it has ended, all of it was taken
    ended_done : new.input.ended ≡ true → end.status ≡ ran.outcome.status → Grew old.out.held ran.outcome.text new.out.held → (end.status ≡ (way bytes true).status) × IsDone (λ events. T events End) way bytes old new (number_of end.status)
    ended_done ended exact grew =
        let all = gave_all bytes ran.taken new.input.left gave (used_up ended) in
        let here : P bytes true ran.outcome = subst (λ (b : Bool). P bytes b ran.outcome) ended (subst (λ (b : List ℕ). P b new.input.ended ran.outcome) all.0 ran.is) in
        let is : ran.outcome ≡ reading_outcome way T bytes true = only.whole ran.outcome here in
        let status = exact ∙ ap (λ (o : Outcome). o.status) is in (
          status,
          record {
            number = ap number_of status ∙ done;
            nothing_left = all.1;
            text = subst (λ (l : List ℕ). Grew old.out.held l new.out.held) (ap (λ (o : Outcome). o.text) is ∙ whole_text_is) grew;
          },
        )

    done_by : ((end.status ≡ (way bytes true).status) × IsDone (λ events. T events End) way bytes old new (number_of end.status)) ⊎ (end.status ≡ Memory)
    done_by = by (cut_by end.status) new.input.ended refl
      where
        by : (end.status ≡ Memory) ⊎ ((end.status ≡ Write) ⊎ ((end.status ≢ Memory) × (end.status ≢ Write))) → (ended : Bool) → new.input.ended ≡ ended
            → ((end.status ≡ (way bytes true).status) × IsDone (λ events. T events End) way bytes old new (number_of end.status)) ⊎ (end.status ≡ Memory)
        by (inl memory) ended is = inr memory
        by (inr (inl write)) ended is = absurd (no_write (ran.write_fault write).0)
        by (inr (inr neither)) true is =
            let exact = ran.exact neither.0 neither.1 in
            inl (ended_done is (ap (λ (e : Ending). e.status) exact.0) exact.1)
        by (inr (inr neither)) false is = absurd (stopped_open is (ap (λ (e : Ending). e.status) (ran.exact neither.0 neither.1).0))

  module _ (names : List (List ℕ)) (before after : Filed) (no_load : (name : List ℕ) → Contains names name → Rose (before.faults name) (after.faults name) → ⊥) where
    answered_done : (end : Ending) → Answered names P before after old new end → IsDone (λ events. T events End) way bytes old new (number_of end.status) ⊎ (end.status ≡ Memory)
    answered_done end (by_memory memory same) = inr (ap (λ (e : Ending). e.status) memory)
    answered_done end (by_file fault) = absurd (no_load fault.name fault.own fault.rose)
    answered_done end (by_refusal refused) = absurd (not_refused end refused)
    answered_done end (by_run ran) = elim (done_by end ran) [
      | inl whole ↦ inl whole.1
      | inr memory ↦ inr memory
    ]
    answered_done end (by_itself made) = absurd (not_made end made)

    -- the same of the number that the program ends with
    number_done : (end : Ending) (result : ℕ) → result ≡ number_of end.status → Answered names P before after old new end → IsDone (λ events. T events End) way bytes old new result ⊎ (result ≡ 1)
    number_done end result number answered = elim (answered_done end answered) [
      | inl done ↦ inl (subst (IsDone (λ events. T events End) way bytes old new) (sym number) done)
      | inr memory ↦ inr (number ∙ ap number_of memory)
    ]

-- a run whose outcomes are readings with one text is done
pub ran_done : (P : List ℕ → Bool → Outcome → Type 0) (old new : Outside) (way : CameFrom) → IsWay way → (bytes : List ℕ) (T : List Event → Stop → List ℕ) → IsOnly P way T → ReadsToEnd way old.input bytes
    → (Rose old.input.faults new.input.faults → ⊥) → (Rose old.out.faults new.out.faults → ⊥) → (new.input.ended ≡ true → IsUsedUp new.input.left) → (end : Ending) → Ran P old new end
    → ((end.status ≡ (way bytes true).status) × IsDone (λ events. T events End) way bytes old new (number_of end.status)) ⊎ (end.status ≡ Memory)
ran_done P old new way is_way bytes T only = done_by P old new way is_way bytes T (for_all P way T bytes only)

-- whatever call keeps the promise, where the words have no other outcome
promised : (predictors words : List (List ℕ)) (before after : Filed) (old new : Outside) (err_old err_new : SinkState) (result : ℕ) (way : CameFrom) (is_way : IsWay way) (bytes : List ℕ)
    (T : List Event → Stop → List ℕ) → IsOnlyFor (IsOutcome predictors words before.held) way T bytes → Promise predictors words before after old new err_old err_new result
    → ReadsToEnd way old.input bytes → NoneRose predictors words before after old new → IsDone (λ events. T events End) way bytes old new result ⊎ (result ≡ 1)
promised predictors words before after old new err_old err_new result way is_way bytes T only promise reads quiet =
    let none = quiet promise.names promise.given in
    number_done (IsOutcome predictors words before.held) old new way is_way bytes T only reads none.input none.out promise.used_up
    promise.names before after none.files promise.end result promise.number promise.served.answered

-- the law of completeness, from those of texts, of schedules and of rows
module _ (reading : OneReading) (truth : OneTruth) (stay : RowsStay) where
  -- of a run, whatever it tells
  told_completes : (predictors words : List (List ℕ)) (before after : Filed) (old new : Outside) (err_old err_new : SinkState) (result : ℕ) (bytes : List ℕ) (proof : Bool) (q : Plan) (place : Place) (l : Lateness)
      (command : Command) (query : List ℕ) → IsCall predictors words command → StandsAt before.held place query → IsPlanFor query q
      → ((bytes : List ℕ) (ended : Bool) (o : Outcome) → CommandOutcome command before.held bytes ended o → ToldOutcome (text_by proof) place l before.held bytes ended o)
      → Promise predictors words before after old new err_old err_new result → ReadsToEnd (came_within q l) old.input bytes → NoneRose predictors words before after old new
      → IsDone (λ events. text_by proof q events End) (came_within q l) bytes old new result ⊎ (result ≡ 1)
  told_completes predictors words before after old new err_old err_new result bytes proof q place l command query call stands compiles is promise reads quiet =
      let P = IsOutcome predictors words before.held in
      promised predictors words before after old new err_old err_new result (came_within q l) (late_way stay q l) bytes (text_by proof q)
      (for_all P (came_within q l) (text_by proof q) bytes
      (only_by predictors words before.held (came_within q l) (text_by proof q) command call (λ b e o comes. run_at reading truth before.held q place query compiles stands b e proof l o (is b e o comes))))
      promise reads quiet

  pub completes : OneSchedule → GraphLaws → Completes
  completes sched laws predictors words before after old new err_old err_new result _ bytes _ promise (for_run q source speed slack late trees proof query call stands compiles) reads quiet =
      told_completes predictors words before after old new err_old err_new result bytes proof q (place_of source) (lateness slack late) (run source speed slack late trees proof) query call stands compiles
      (λ b e o comes. comes) promise reads quiet
  completes sched laws predictors words before after old new err_old err_new result _ bytes _ promise (for_plain q source slack late query call stands compiles) reads quiet =
      told_completes predictors words before after old new err_old err_new result bytes false q (place_of source) (lateness slack late) (plain source slack late) query call stands compiles
      (λ b e o comes. comes) promise reads quiet
  completes sched laws predictors words before after old new err_old err_new result _ bytes _ promise (for_trace q source query name bound steps call stands compiles tells) reads quiet =
      let P = IsOutcome predictors words before.held in
      promised predictors words before after old new err_old err_new result (came q) (strict_way stay q) bytes (trace_text bound steps q)
      (for_all P (came q) (trace_text bound steps q) bytes
      (only_by predictors words before.held (came q) (trace_text bound steps q) (trace source name bound) call (λ b e o. trace_at reading truth before.held q (place_of source) query compiles stands b e sched name bound steps tells o)))
      promise reads quiet
  completes sched laws predictors words before after old new err_old err_new result _ bytes _ promise (for_graph q p own source query second returns speed call stands compiles short-second second-is short-returns are) reads quiet =
      let P = IsOutcome predictors words before.held in
      let way = graph_came q own p in
      promised predictors words before after old new err_old err_new result way (graph_way q own p stay) bytes (windows_text p)
      (for_all P way (windows_text p) bytes
      (only_by predictors words before.held way (windows_text p) (graph source second returns speed) call
      (λ b e. graph_at laws before.held (place_of source) q p own query second returns stands compiles short-second second-is short-returns are b e)))
      promise reads quiet

  -- and of a check, whose entries are those of the run
  right_alone : (q : Plan) (entries : List Entry) (bytes : List ℕ) → (came q bytes true).stop ≡ End → entries ≡ proofs q (came q bytes true).events true → (o : Outcome)
      → ListingOutcome q entries (came q bytes true) o → o ≡ reading_outcome (came q) (λ events stop. yes_line entries) bytes true
  right_alone q entries bytes end same _ (stopped early) = absurd (not_both _ early (ap is_end end))
  right_alone q entries bytes end same _ (right whole so) = refl
  right_alone q entries bytes end same _ (wrong window whole differ) = absurd (same_differ_not _ _ window same differ)

  stopped_alone : (q : Plan) (entries : List Entry) (bytes : List ℕ) (ended : Bool) (o : Outcome) → ListingOutcome q entries (came q bytes ended) o → is_end (came q bytes ended).stop ≡ false
      → o.status ≡ (came q bytes ended).status
  stopped_alone q entries bytes ended _ (stopped early) _ = refl
  stopped_alone q entries bytes ended _ (right whole so) early = absurd (not_both _ early whole)
  stopped_alone q entries bytes ended _ (wrong window whole differ) early = absurd (not_both _ early whole)

  pub checks_complete : OneListing → CheckCompletes
  checks_complete law predictors words before after old new err_old err_new result q entries bytes promise asks reads same quiet =
      let command = check asks.source asks.list in
      let comes : (b : List ℕ) (e : Bool) (o : Outcome) → IsOutcome predictors words before.held b e o → ListingOutcome q entries (came q b e) o =
      λ b e o is. check_at reading truth before.held q (place_of asks.source) asks.query asks.plan asks.stands b e law asks.list entries asks.listing o
      (of_command predictors words before.held command asks.call b e o is) in
      promised predictors words before after old new err_old err_new result (came q) (strict_way stay q) bytes (λ events stop. yes_line entries)
      (record {
        whole = λ o is. right_alone q entries bytes reads.stop same o (comes bytes true o is);
        stopped = λ b e o is early. stopped_alone q entries b e o (comes b e o is) early;
      })
      promise reads quiet
