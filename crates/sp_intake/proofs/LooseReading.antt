-- A reading without slack that refuses what is late is the one in which times may not go back.
use Rattle.std.proofs.Common.{◌≡◌, ◌⊎◌, inl, inr, ◌==◌, ℕ, ℤ, pos, ◌+◌, ◌≤ℤ◌, ◌-ℤ◌, Bool, true, false, List, [], ◌∷◌, ◌++◌, length, Option, Some, None, refl, sym, ◌∙◌, ap, subst, arith, add-zero}
use Rattle.std.specs.Prelude.{is_some, is_none, find, int_lt, if◌then◌else◌}
use Rattle.std.specs.Int.{int_max}
use Rattle.std.specs.List.{fold}
use Rattle.std.proofs.lemmas.Int.{ints}
use Rattle.sp_base.specs.Limits.{event_limit}
use Rattle.sp_plan.specs.Compiled.{IsTimeOf}
use Rattle.sp_plan.specs.declared.event.Event.{Event}
use Rattle.sp_plan.specs.declared.plan.Column.{Column}
use Rattle.sp_plan.specs.declared.plan.Plan.{Plan}
use Rattle.sp_cut.specs.CutRows.{CutRow, row, long_row, open_quote, rows}
use Rattle.sp_rows.specs.declared.fault.RowFault.{RowFault}
use Rattle.sp_rows.specs.declared.fault.RowKind.{RowKind}
use Rattle.sp_rows.specs.declared.fault.RowKind.TheVariants.{BackInTime}
use Rattle.sp_rows.specs.Cells.{RowCells, blank, one, several, row_cells}
use Rattle.sp_rows.specs.Rows.{RowsRead, RowResult, nothing, event, refused, columns_at, first_fault, time_of, time_place, time_place_in, timely, values_of, refused_at, event_or_fault, header_or_fault, place_of, row_of_cells, by_cells, row_result, given_if}
use Rattle.sp_rows.proofs.FitEvents.{time_from_nought}
use Rattle.sp_slack.specs.HeldBack.{greatest, with_time, before, is_before, is_late}
use Rattle.sp_slack.proofs.Growing.{greatest_more}
use Rattle.sp_ports.specs.declared.stop.Failure.TheVariants.{Row, Limit}
use Rattle.sp_intake.specs.Reading.{Reading, stopped_by, with_event, with_result, with_row, take_row, start, read, stop_of}
use Rattle.sp_intake.specs.Loose.{Loose, loose}
use Rattle.sp_intake.specs.Loose as loosely
use Rattle.sp_intake.specs.LooseLaws.{punctual, IsReading}

-- rows of which no time was kept
abbrev pub untimed : RowsRead → RowsRead
untimed s = record s { last = pos 0 }

-- the same of a reading that passed none over
abbrev pub as_loose : Reading → Loose
as_loose r = record { reading = record r { so_far = untimed r.so_far }; late = 0 }

-- the last time is the greatest of the events, 0 before the first
abbrev LatestIs : List Event → ℤ → Type 0
LatestIs events last = ((greatest events ≡ None) × (last ≡ pos 0)) ⊎ (greatest events ≡ Some last)

late_is : (events : List Event) (last : ℤ) (e : Event) → LatestIs events last → pos 0 ≤ℤ e.time → is_late (pos 0) events e ≡ int_lt e.time last
late_is events last e (inl none) low =
    let not : int_lt e.time (pos 0) ≡ false = grind (arith, ints) in
    ap (λ (t : Option ℤ). is_before (before (pos 0) t) e) none.0 ∙ sym not ∙ ap (int_lt e.time) (sym none.1)
late_is events last e (inr some) low =
    let same : last -ℤ pos 0 ≡ last = omega (arith, ints) in
    ap (λ (t : Option ℤ). is_before (before (pos 0) t) e) some ∙ ap (int_lt e.time) same

latest_more : (events : List Event) (last : ℤ) (e : Event) → LatestIs events last → int_lt e.time last ≡ false → LatestIs (events ++ e ∷ []) e.time
latest_more events last e (inl none) later = inr (greatest_more events e ∙ ap (λ (t : Option ℤ). with_time t e) none.0)
latest_more events last e (inr some) later =
    let most : int_max last e.time ≡ e.time = grind (arith, ints) in
    inr (greatest_more events e ∙ ap (λ (t : Option ℤ). with_time t e) some ∙ ap Some most)

module _ (q : Plan) (timed : IsTimeOf q.schema.columns q.schema.time) where
  -- what a row gives where times may not go back, and where no time was kept
  pub data Alike (s : RowsRead) (x y : RowResult) : Type 0 where
    both_nothing : (n : RowsRead) → x ≡ nothing n → y ≡ nothing (untimed n) → n.last ≡ s.last → Alike s x y
    both_event : (e : Event) (n m : RowsRead) → x ≡ event e n → y ≡ event e m → untimed m ≡ untimed n → n.last ≡ e.time → pos 0 ≤ℤ e.time → int_lt e.time s.last ≡ false → Alike s x y
    one_back : (e : Event) (m : RowsRead) (places : List ℕ) → x ≡ refused_at s (BackInTime s.last e.time) (time_place (columns_at q places)) → y ≡ event e m → s.places ≡ Some places
        → pos 0 ≤ℤ e.time → int_lt e.time s.last ≡ true → Alike s x y
    both_fault : (f : RowFault) → x ≡ refused f → y ≡ refused f → Alike s x y

  -- the event of a row, and the rows behind it
  abbrev event_at : RowsRead → List (List ℕ) → List ℕ → Event
  event_at s cells places = record { time = time_of cells (columns_at q places); values = (values_of s.texts cells (columns_at q places)).0 }

  abbrev rows_behind : RowsRead → List (List ℕ) → List ℕ → RowsRead
  rows_behind s cells places = record s { read = s.read + 1; last = time_of cells (columns_at q places); texts = (values_of s.texts cells (columns_at q places)).1 }

  timely_alike : (s : RowsRead) (cells : List (List ℕ)) (places : List ℕ) → s.places ≡ Some places → Alike s (timely s cells (columns_at q places)) (timely (untimed s) cells (columns_at q places))
  timely_alike s cells places placed = by (int_lt (time_of cells (columns_at q places)) s.last) refl
    where
      low : pos 0 ≤ℤ time_of cells (columns_at q places)
      low = time_from_nought q timed cells places

      not_back : int_lt (time_of cells (columns_at q places)) (pos 0) ≡ false
      not_back = let at = low in grind (arith, ints, at)

      own : timely (untimed s) cells (columns_at q places) ≡ event (event_at s cells places) (rows_behind s cells places)
      own = rw not_back refl

      by : (b : Bool) → int_lt (time_of cells (columns_at q places)) s.last ≡ b
          → Alike s (if b then refused_at s (BackInTime s.last (time_of cells (columns_at q places))) (time_place (columns_at q places)) else event (event_at s cells places) (rows_behind s cells places))
          (timely (untimed s) cells (columns_at q places))
      by true is = one_back (event_at s cells places) (rows_behind s cells places) places refl own placed low is
      by false is = both_event (event_at s cells places) (rows_behind s cells places) (rows_behind s cells places) refl own refl refl low is

  event_alike : (s : RowsRead) (cells : List (List ℕ)) (places : List ℕ) (found : Option (RowKind × ℕ)) → s.places ≡ Some places
      → Alike s (event_or_fault s cells (columns_at q places) found) (event_or_fault (untimed s) cells (columns_at q places) found)
  event_alike s cells places None placed = timely_alike s cells places placed
  event_alike s cells places (Some found) placed = both_fault (record { kind = found.0; row = s.read + 1; column = found.1 }) refl refl

  header_alike : (s : RowsRead) (cells : List (List ℕ)) (lacking : Option Column) → Alike s (header_or_fault q s cells lacking) (header_or_fault q (untimed s) cells lacking)
  header_alike s cells (Some column) = both_fault _ refl refl
  header_alike s cells None = both_nothing _ refl refl refl

  cells_alike : (s : RowsRead) (cells : List (List ℕ)) (places : Option (List ℕ)) → s.places ≡ places → Alike s (row_of_cells q s cells places) (row_of_cells q (untimed s) cells places)
  cells_alike s cells None placed = header_alike s cells (find (λ column. is_none (place_of cells column)) q.schema.columns)
  cells_alike s cells (Some places) placed = event_alike s cells places (first_fault cells (columns_at q places)) placed

  read_alike : (s : RowsRead) (cells : RowCells) → Alike s (by_cells q s cells) (by_cells q (untimed s) cells)
  read_alike s blank = both_nothing (record s { read = s.read + 1 }) refl refl refl
  read_alike s several = both_fault _ refl refl
  read_alike s (one cells) = cells_alike s cells s.places refl

  -- ---- a row more

  taken : (r : Reading) (e : Event) (n : RowsRead) (b : Bool) → (if b then loosely.filled (as_loose r) (untimed n) else loosely.reads_on (as_loose r) (record (as_loose r).reading { so_far = untimed n; events = r.events ++ e ∷ [] }))
      ≡ as_loose (if b then record r { so_far = n; stopped = Some (Limit event_limit) } else record r { so_far = n; events = r.events ++ e ∷ [] })
  taken r e n true = refl
  taken r e n false = refl

  result_same : (r : Reading) (x y : RowResult) → LatestIs r.events r.so_far.last → Alike r.so_far x y → loosely.with_result q punctual (as_loose r) (given_if true y) ≡ as_loose (with_result r x)
  result_same r x y latest (both_nothing n is own same) =
      ap (λ (g : RowResult). loosely.with_result q punctual (as_loose r) (given_if true g)) own ∙ sym (ap (λ (g : RowResult). as_loose (with_result r g)) is)
  result_same r x y latest (both_event e n m is own same last low late) =
      ap (λ (g : RowResult). loosely.with_result q punctual (as_loose r) (given_if true g)) own
      ∙ ap (λ (so_far : RowsRead). loosely.with_event q punctual (as_loose r) e so_far) same
      ∙ ap (λ (b : Bool). if b then loosely.with_late q punctual.rule (as_loose r) (untimed n)
      else if loosely.is_full (as_loose r) then loosely.filled (as_loose r) (untimed n)
      else loosely.reads_on (as_loose r) (record (as_loose r).reading { so_far = untimed n; events = r.events ++ e ∷ [] })) (late_is r.events r.so_far.last e latest low ∙ late)
      ∙ ap (λ (count : ℕ). if count == event_limit then loosely.filled (as_loose r) (untimed n)
      else loosely.reads_on (as_loose r) (record (as_loose r).reading { so_far = untimed n; events = r.events ++ e ∷ [] })) (add-zero (length r.events))
      ∙ taken r e n (length r.events == event_limit)
      ∙ sym (ap (λ (g : RowResult). as_loose (with_result r g)) is)
  result_same r x y latest (one_back e m places is own placed low late) =
      ap (λ (g : RowResult). loosely.with_result q punctual (as_loose r) (given_if true g)) own
      ∙ ap (λ (b : Bool). if b then loosely.with_late q punctual.rule (as_loose r) (untimed m)
      else if loosely.is_full (as_loose r) then loosely.filled (as_loose r) (untimed m)
      else loosely.reads_on (as_loose r) (record (as_loose r).reading { so_far = untimed m; events = r.events ++ e ∷ [] })) (late_is r.events r.so_far.last e latest low ∙ late)
      ∙ ap (λ (found : Option (List ℕ)). as_loose (stopped_by r (Row 6 (r.so_far.read + 1) (time_place_in q found)))) placed
      ∙ sym (ap (λ (g : RowResult). as_loose (with_result r g)) is)
  result_same r x y latest (both_fault f is own) =
      ap (λ (g : RowResult). loosely.with_result q punctual (as_loose r) (given_if true g)) own ∙ sym (ap (λ (g : RowResult). as_loose (with_result r g)) is)

  given_same : (r : Reading) (next : CutRow) → LatestIs r.events r.so_far.last → loosely.with_row q punctual (as_loose r) next ≡ as_loose (with_row q r next)
  given_same r (row bytes) latest = result_same r (row_result q r.so_far bytes) (row_result q (untimed r.so_far) bytes) latest (read_alike r.so_far (row_cells bytes))
  given_same r long_row latest = refl
  given_same r open_quote latest = refl

  -- while no row has stopped it, the last time is the greatest
  abbrev GoesOn : Reading → Type 0
  GoesOn r = is_some r.stopped ≡ false → LatestIs r.events r.so_far.last

  choice : (b : Bool) (x y : Reading) → (if b then as_loose x else as_loose y) ≡ as_loose (if b then x else y)
  choice true x y = refl
  choice false x y = refl

  row_same : (r : Reading) (next : CutRow) → GoesOn r → loosely.take_row q punctual (as_loose r) next ≡ as_loose (take_row q r next)
  row_same r next good = by (is_some r.stopped) refl
    where
      by : (b : Bool) → is_some r.stopped ≡ b
          → (if b then as_loose r else if r.so_far.read == 2097152 then as_loose (stopped_by r (Limit 2097152)) else loosely.with_row q punctual (as_loose r) next)
          ≡ as_loose (if b then r else if r.so_far.read == 2097152 then stopped_by r (Limit 2097152) else with_row q r next)
      by true is = refl
      by false is =
          ap (λ (l : Loose). if r.so_far.read == 2097152 then as_loose (stopped_by r (Limit 2097152)) else l) (given_same r next (good is))
          ∙ choice (r.so_far.read == 2097152) (stopped_by r (Limit 2097152)) (with_row q r next)

  -- ---- and what holds behind it

  event_on : (r : Reading) (e : Event) (n : RowsRead) → LatestIs r.events r.so_far.last → n.last ≡ e.time → int_lt e.time r.so_far.last ≡ false → GoesOn (with_event r e n)
  event_on r e n latest last later = by (length r.events == event_limit)
    where
      by : (b : Bool) → GoesOn (if b then record r { so_far = n; stopped = Some (Limit event_limit) } else record r { so_far = n; events = r.events ++ e ∷ [] })
      by true = λ going. absurd (cc going)
      by false = λ going. subst (LatestIs (r.events ++ e ∷ [])) (sym last) (latest_more r.events r.so_far.last e latest later)

  result_on : (r : Reading) (x y : RowResult) → LatestIs r.events r.so_far.last → Alike r.so_far x y → GoesOn (with_result r x)
  result_on r x y latest (both_nothing n is own same) = subst (λ (g : RowResult). GoesOn (with_result r g)) (sym is) (λ going. subst (LatestIs r.events) (sym same) latest)
  result_on r x y latest (both_event e n m is own same last low late) = subst (λ (g : RowResult). GoesOn (with_result r g)) (sym is) (event_on r e n latest last late)
  result_on r x y latest (one_back e m places is own placed low late) = subst (λ (g : RowResult). GoesOn (with_result r g)) (sym is) (λ going. absurd (cc going))
  result_on r x y latest (both_fault f is own) = subst (λ (g : RowResult). GoesOn (with_result r g)) (sym is) (λ going. absurd (cc going))

  given_on : (r : Reading) (next : CutRow) → LatestIs r.events r.so_far.last → GoesOn (with_row q r next)
  given_on r (row bytes) latest = result_on r (row_result q r.so_far bytes) (row_result q (untimed r.so_far) bytes) latest (read_alike r.so_far (row_cells bytes))
  given_on r long_row latest = λ going. absurd (cc going)
  given_on r open_quote latest = λ going. absurd (cc going)

  row_on : (r : Reading) (next : CutRow) → GoesOn r → GoesOn (take_row q r next)
  row_on r next good = by (is_some r.stopped) refl (r.so_far.read == 2097152)
    where
      by : (b : Bool) → is_some r.stopped ≡ b → (full : Bool) → GoesOn (if b then r else if full then stopped_by r (Limit 2097152) else with_row q r next)
      by true is full = good
      by false is true = λ going. absurd (cc going)
      by false is false = given_on r next (good is)

  rows_same : (rs : List CutRow) (r : Reading) → GoesOn r → fold (loosely.take_row q punctual) (as_loose r) rs ≡ as_loose (fold (take_row q) r rs)
  rows_same [] r good = refl
  rows_same (next ∷ rs) r good = ap (λ (l : Loose). fold (loosely.take_row q punctual) l rs) (row_same r next good) ∙ rows_same rs (take_row q r next) (row_on r next good)

  pub loose_same : (bytes : List ℕ) (ended : Bool) → loose q punctual bytes ended ≡ as_loose (read q bytes ended)
  loose_same bytes ended = rows_same (rows bytes ended) (start q) (λ going. inl (refl, refl))

  pub is_reading : (bytes : List ℕ) (ended : Bool) → IsReading q bytes ended
  is_reading bytes ended =
      let same = loose_same bytes ended in
      record {
        events = ap (λ (l : Loose). l.reading.events) same;
        late = ap (λ (l : Loose). l.late) same;
        stop = ap (λ (l : Loose). stop_of l.reading ended) same;
      }
