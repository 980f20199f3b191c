-- Plans that are alike read, match and write alike.
use Rattle.std.proofs.Common.{◌≡◌, ℕ, zero, suc, ◌+◌, Bool, true, false, not, List, [], ◌∷◌, ◌++◌, ◌||◌, length, map, Option, Some, None, refl, ◌∙◌, ap}
use Rattle.std.specs.Prelude.{pos, is_some, is_none, slice_get, filter, find, ◌==◌, if◌then◌else◌, codes}
use Rattle.std.specs.List.{fold, flat_map, filter_map, enumerate_from, list_all, list_any, last_or, zip}
use Rattle.std.specs.Fmt.{decimal}
use Rattle.sp_base.specs.Commas.{commas, list_text}
use Rattle.sp_base.specs.Numbers.{is_among}
use Rattle.sp_cut.specs.CutRows.{CutRow, row, long_row, open_quote, rows}
use Rattle.sp_plan.specs.declared.event.Event.{Event}
use Rattle.sp_plan.specs.declared.plan.Plan.{Plan}
use Rattle.sp_plan.specs.declared.plan.Schema.{Schema}
use Rattle.sp_plan.specs.declared.plan.Column.{Column}
use Rattle.sp_plan.specs.declared.plan.Name.{Name}
use Rattle.sp_plan.specs.declared.plan.Length.{Length}
use Rattle.sp_plan.specs.declared.plan.Opening.{Opening}
use Rattle.sp_plan.specs.declared.plan.Opening.TheVariants.{EveryEvents, EveryTime, When}
use Rattle.sp_plan.specs.declared.plan.Select.{Select}
use Rattle.sp_plan.specs.declared.plan.Select.TheVariants.{First, Last, Each}
use Rattle.sp_plan.specs.declared.found.Match.{Match}
use Rattle.sp_plan.specs.Texts.{with_text}
use Rattle.sp_plan.specs.Lines.{name_text, line, text}
use Rattle.sp_plan.specs.Windows.{Numbered, Window, windows_by, window_from, numbered, windows, closed}
use Rattle.sp_plan.specs.Runs.{Run, Started, State, Handling, Pair, binds, departs, guarded, guards_behind, unbound, is_filled, again, bound_events, fits_name, takes, is_complete, is_consumed, used, holds_one, numbers_under, fresh, completed, kept_with, grown, leaves, passed, offered, handle_run, may_start, started_with, handle, state, matched_runs}
use Rattle.sp_plan.specs.Sequential.{Progress, match_of, visible, after_window, seq, whole}
use Rattle.sp_rows.specs.Rows.{RowsRead, RowResult, ColumnAt, nothing, event, refused, given_if, time_place, time_place_in, place_of, columns_at, is_place, header_or_fault, event_or_fault, first_fault, row_of_cells, by_cells}
use Rattle.sp_rows.specs.Cells.{RowCells, blank, one, several, row_cells}
use Rattle.sp_commands.specs.Alike.{Alike, NamesAlike, OpeningsAlike}
use Rattle.sp_intake.specs.Reading.{Reading, start, with_result, with_row, stopped_by, take_row, read}
use Rattle.sp_intake.specs.Loose.{Lateness, Loose, loose}
use Rattle.sp_intake.specs.Loose as loosely
use Rattle.sp_slack.specs.HeldBack.{is_late}
use Rattle.sp_slack.specs.declared.late.LateRule.{LateRule}
use Rattle.sp_slack.specs.declared.late.LateRule.TheVariants.{Refuse, Drop}
use Rattle.sp_ports.specs.declared.stop.Failure.TheVariants.{Row, Limit}

module _ (q p : Plan) (alike : Alike q p) where
  -- ---- rows

  header_same : (r : RowsRead) (cells : List (List ℕ)) (lacking : Option Column) → header_or_fault q r cells lacking ≡ header_or_fault p r cells lacking
  header_same r cells (Some column) = refl
  header_same r cells None = ap (λ (s : Schema). nothing (record r { places = Some (filter_map (place_of cells) s.columns); read = r.read + 1 })) alike.schema

  columns_same : (places : List ℕ) → columns_at q places ≡ columns_at p places
  columns_same places = ap (λ (s : Schema). map (λ (x : ℕ × (Column × ℕ)). let at : ColumnAt = record { is_time = is_place s.time x.0; kind = x.1.0.kind; place = x.1.1 } in at) (enumerate_from 0 (zip s.columns places))) alike.schema

  cells_same : (r : RowsRead) (cells : List (List ℕ)) (places : Option (List ℕ)) → row_of_cells q r cells places ≡ row_of_cells p r cells places
  cells_same r cells None =
      header_same r cells (find (λ column. is_none (place_of cells column)) q.schema.columns)
      ∙ ap (λ (s : Schema). header_or_fault p r cells (find (λ column. is_none (place_of cells column)) s.columns)) alike.schema
  cells_same r cells (Some places) = ap (λ (columns : List ColumnAt). event_or_fault r cells columns (first_fault cells columns)) (columns_same places)

  by_cells_same : (r : RowsRead) (cells : RowCells) → by_cells q r cells ≡ by_cells p r cells
  by_cells_same r blank = refl
  by_cells_same r several = refl
  by_cells_same r (one cells) = cells_same r cells r.places

  row_same : (r : Reading) (next : CutRow) → with_row q r next ≡ with_row p r next
  row_same r (row bytes) = ap (with_result r) (by_cells_same r.so_far (row_cells bytes))
  row_same r long_row = refl
  row_same r open_quote = refl

  rows_same : (r : Reading) (all : List CutRow) → fold (take_row q) r all ≡ fold (take_row p) r all
  rows_same r [] = refl
  rows_same r (next ∷ others) =
      ap (λ (given : Reading). fold (take_row q) (if is_some r.stopped then r else if r.so_far.read == 2097152 then stopped_by r (Limit 2097152) else given) others) (row_same r next)
      ∙ rows_same (take_row p r next) others

  abbrev begin_with : List (List ℕ) → Reading
  begin_with texts = record { so_far = record { places = None; read = 0; last = pos 0; texts = fold with_text [] texts }; events = []; stopped = None }

  pub read_same : (bytes : List ℕ) (ended : Bool) → read q bytes ended ≡ read p bytes ended
  read_same bytes ended =
      rows_same (start q) (rows bytes ended)
      ∙ ap (λ (texts : List (List ℕ)). fold (take_row p) (begin_with texts) (rows bytes ended)) alike.texts

  -- ---- rows that may come late

  late_place_same : (places : Option (List ℕ)) → time_place_in q places ≡ time_place_in p places
  late_place_same None = refl
  late_place_same (Some places) = ap time_place (columns_same places)

  late_same : (rule : LateRule) (r : Loose) (so_far : RowsRead) → loosely.with_late q rule r so_far ≡ loosely.with_late p rule r so_far
  late_same Refuse r so_far = ap (λ (column : ℕ). loosely.reads_on r (stopped_by r.reading (Row 6 (r.reading.so_far.read + 1) column))) (late_place_same r.reading.so_far.places)
  late_same Drop r so_far = refl

  loose_event_same : (l : Lateness) (r : Loose) (given : RowResult) → loosely.with_result q l r given ≡ loosely.with_result p l r given
  loose_event_same l r (nothing so_far) = refl
  loose_event_same l r (event e so_far) = λ i.
      if is_late l.slack r.reading.events e then late_same l.rule r so_far i
      else if loosely.is_full r then loosely.filled r so_far
      else loosely.reads_on r (record r.reading { so_far = so_far; events = r.reading.events ++ e ∷ [] })
  loose_event_same l r (refused f) = refl

  loose_row_same : (l : Lateness) (r : Loose) (next : CutRow) → loosely.with_row q l r next ≡ loosely.with_row p l r next
  loose_row_same l r (row bytes) =
      loose_event_same l r (given_if true (by_cells q r.reading.so_far (row_cells bytes)))
      ∙ ap (λ (given : RowResult). loosely.with_result p l r (given_if true given)) (by_cells_same r.reading.so_far (row_cells bytes))
  loose_row_same l r long_row = refl
  loose_row_same l r open_quote = refl

  loose_rows_same : (l : Lateness) (r : Loose) (all : List CutRow) → fold (loosely.take_row q l) r all ≡ fold (loosely.take_row p l) r all
  loose_rows_same l r [] = refl
  loose_rows_same l r (next ∷ others) =
      ap (λ (given : Loose).
      fold (loosely.take_row q l) (if is_some r.reading.stopped then r else if r.reading.so_far.read == 2097152 then loosely.reads_on r (stopped_by r.reading (Limit 2097152)) else given) others)
      (loose_row_same l r next)
      ∙ loose_rows_same l (loosely.take_row p l r next) others

  pub loose_same : (l : Lateness) (bytes : List ℕ) (ended : Bool) → loose q l bytes ended ≡ loose p l bytes ended
  loose_same l bytes ended =
      loose_rows_same l (loosely.start q) (rows bytes ended)
      ∙ ap (λ (texts : List (List ℕ)). let first : Loose = record { reading = begin_with texts; late = 0 } in fold (loosely.take_row p l) first (rows bytes ended)) alike.texts

  -- ---- runs

  fits_same : (x y : Option Name) → NamesAlike x y → (r : Run) (e : Event) → fits_name x r e ≡ fits_name y r e
  fits_same None None same r e = refl
  fits_same (Some x) (Some y) same r e = same.2 e (bound_events r)
  fits_same None (Some y) same r e = absurd same
  fits_same (Some x) None same r e = absurd same

  consumed_same : (x y : Option Name) → NamesAlike x y → is_consumed x ≡ is_consumed y
  consumed_same None None same = refl
  consumed_same (Some x) (Some y) same = same.1
  consumed_same None (Some y) same = absurd same
  consumed_same (Some x) None same = absurd same

  text_same : (x y : Option Name) → NamesAlike x y → name_text x ≡ name_text y
  text_same None None same = refl
  text_same (Some x) (Some y) same = same.0
  text_same None (Some y) same = absurd same
  text_same (Some x) None same = absurd same

  takes_same : (r : Run) (e : Event) → takes q r e ≡ takes p r e
  takes_same r e = λ i. find (λ (name : ℕ). fits_same (slice_get q.names name) (slice_get p.names name) (alike.names name) r e i) (unbound r (find (λ element. not (is_filled r element)) (alike.elements i)) ++ again (alike.elements i) (last_or None r))

  pub used_same : (r : Run) → used q r ≡ used p r
  used_same r = λ i. map (λ (pair : Pair). pair.number) (filter (λ (pair : Pair). consumed_same (slice_get q.names pair.name) (slice_get p.names pair.name) (alike.names pair.name) i) r)

  complete_same : (r : Run) → is_complete q r ≡ is_complete p r
  complete_same r = λ i. list_all (is_filled r) (alike.elements i)

  completed_same : (h : Handling) (run : Started) → completed q h run ≡ completed p h run
  completed_same h run = ap (λ (u : List ℕ). let done : Handling = record { kept = filter (λ (other : Started). not (holds_one u other.1)) h.kept; matched = h.matched ++ run ∷ []; taken = h.taken ++ u } in done) (used_same run.1)

  grown_same : (h : Handling) (run : Started) → grown q h run ≡ grown p h run
  grown_same h run = λ i. if complete_same run.1 i then completed_same h run i else kept_with h run

  leaves_same : (s : Select) (e : Event) → leaves s q e ≡ leaves s p e
  leaves_same Last e = ap is_some (takes_same [] e)
  leaves_same First e = refl
  leaves_same Each e = refl

  guarded_same : (r : Run) (e : Event) → guarded q r e ≡ guarded p r e
  guarded_same r e = λ i. list_any (λ (name : ℕ). fits_same (slice_get q.names name) (slice_get p.names name) (alike.names name) r e i) (guards_behind (alike.elements i) r (last_or None r))

  passed_same : (h : Handling) (run : Started) (e : Event) → passed q h run e ≡ passed p h run e
  passed_same h run e =
      let leaving : leaves q.select q e ≡ leaves p.select p e = leaves_same q.select e ∙ ap (λ (s : Select). leaves s p e) alike.select in
      let departing : departs q run.1 e ≡ departs p run.1 e = λ i. leaving i || guarded_same run.1 e i in
      λ i. if departing i then h else kept_with h run

  offered_same : (x : Numbered) (h : Handling) (run : Started) (name : Option ℕ) → offered q x h run name ≡ offered p x h run name
  offered_same x h run (Some name) = grown_same h _
  offered_same x h run None = passed_same h run x.1

  run_same : (x : Numbered) (h : Handling) (run : Started) → handle_run q x h run ≡ handle_run p x h run
  run_same x h run =
      let own : offered q x h run (takes q run.1 x.1) ≡ offered p x h run (takes p run.1 x.1) = offered_same x h run (takes q run.1 x.1) ∙ ap (offered p x h run) (takes_same run.1 x.1) in
      λ i. if holds_one h.taken run.1 then h else if is_among h.taken x.0 then kept_with h run else own i

  may_same : (s : Select) (before : State) (h : Handling) (x : Numbered) → may_start s q before h x ≡ may_start s p before h x
  may_same First before h x = refl
  may_same Last before h x = λ i. list_all (λ (run : Started). is_none (takes_same run.1 x.1 i)) before.open_runs
  may_same Each before h x = refl

  started_same : (x : Numbered) (h : Handling) (count : ℕ) (name : Option ℕ) → started_with q x h count name ≡ started_with p x h count name
  started_same x h count None = refl
  started_same x h count (Some name) = ap (λ (h' : Handling). let s : State = record { open_runs = h'.kept; matched = h'.matched; started = count + 1 } in s) (grown_same h (count + 1, (record { name = name; number = x.0; event = x.1 }) ∷ []))

  begun_same : (s : State) (x : Numbered) (h : Handling) → started_with q x h s.started (if may_start q.select q s h x then takes q [] x.1 else None) ≡ started_with p x h s.started (if may_start p.select p s h x then takes p [] x.1 else None)
  begun_same s x h =
      let may : may_start q.select q s h x ≡ may_start p.select p s h x = may_same q.select s h x ∙ ap (λ (select : Select). may_start select p s h x) alike.select in
      started_same x h s.started _ ∙ (λ i. started_with p x h s.started (if may i then takes_same [] x.1 i else None))

  pub handle_same : (s : State) (x : Numbered) → handle q s x ≡ handle p s x
  handle_same s x =
      let begin : Handling = record { kept = []; matched = s.matched; taken = [] } in
      begun_same s x (fold (handle_run q x) begin s.open_runs)
      ∙ (λ i. let h = fold (λ (h : Handling) (run : Started). run_same x h run i) begin s.open_runs in started_with p x h s.started (if may_start p.select p s h x then takes p [] x.1 else None))

  state_same : (events : List Numbered) → state q events ≡ state p events
  state_same events = λ i. fold (λ (s : State) (x : Numbered). handle_same s x i) fresh events

  -- ---- windows

  opening_same : (x y : Opening) (l : Length) (events : List Event) (ended : Bool) → OpeningsAlike x y → windows_by x l events ended ≡ windows_by y l events ended
  opening_same (When x) (When y) l events ended same = λ i. map (window_from l events ended) (filter (λ (n : Numbered). same n.1 [] i) (numbered events))
  opening_same (When x) (EveryEvents n) l events ended same = ap (λ (o : Opening). windows_by o l events ended) same
  opening_same (When x) (EveryTime s) l events ended same = ap (λ (o : Opening). windows_by o l events ended) same
  opening_same (EveryEvents n) y l events ended same = ap (λ (o : Opening). windows_by o l events ended) same
  opening_same (EveryTime s) y l events ended same = ap (λ (o : Opening). windows_by o l events ended) same

  pub windows_same : (events : List Event) (ended : Bool) → windows q events ended ≡ windows p events ended
  windows_same events ended = opening_same q.opening p.opening q.length events ended alike.opening ∙ ap (λ (l : Length). windows_by p.opening l events ended) alike.length_is

  pub match_same : (window : ℕ) (run : ℕ × Run) → match_of q window run ≡ match_of p window run
  match_same window run = λ i. record { window = window; number = run.0; bound = map (λ (name : ℕ). (name, numbers_under run.1 name)) (flat_map binds (alike.elements i)); used = used_same run.1 i }

  after_same : (window : ℕ) (before : Progress) (runs : List Run) → after_window q window before runs ≡ after_window p window before runs
  after_same window before runs = λ i. record {
    matches = before.matches ++ map (λ (run : ℕ × Run). match_same window run i) (enumerate_from (length before.matches + 1) runs);
    consumed = before.consumed ++ flat_map (λ (run : Run). used_same run i) runs;
  }

  pub seq_same : (events : List Event) (n : ℕ) → seq q events n ≡ seq p events n
  seq_same events zero = refl
  seq_same events (suc n) =
      after_same (suc n) (seq q events n) _
      ∙ (λ i. let before = seq_same events n i in after_window p (suc n) before (matched_runs (state_same (visible events before.consumed (slice_get (windows_same events false i) n)) i)))

  pub whole_same : (events : List Event) (ended : Bool) → whole q events ended ≡ whole p events ended
  whole_same events ended = seq_same events (closed q events ended) ∙ (λ i. seq p events (length (filter (λ (w : Window). w.closed) (windows_same events ended i))))

  -- ---- lines

  pub line_same : (m : Match) → line q m ≡ line p m
  line_same m = λ i.
      codes "w=" ++ decimal m.window ++ codes " m=" ++ decimal m.number
      ++ flat_map (λ (pair : ℕ × List ℕ). codes " " ++ text_same (slice_get q.names pair.0) (slice_get p.names pair.0) (alike.names pair.0) i ++ codes "=" ++ commas pair.1) m.bound
      ++ codes " used=" ++ list_text m.used ++ codes "\n"

  pub lines_same : (matches : List Match) → text q matches ≡ text p matches
  lines_same matches = λ i. flat_map (λ (m : Match). line_same m i) matches
