-- A row that is taken, and one that stops the reading.
use Rattle.std.proofs.Common.{◌≡◌, ◌≢◌, ◌==◌, ◌≤◌, ℕ, ℤ, pos, ◌+◌, ◌-ℤ◌, ◌≤ℤ◌, Bool, true, false, List, [], ◌∷◌, ◌++◌, length, refl, sym, ◌∙◌, ap, subst, arith}
use Rattle.std.specs.Prelude.{Option, Some, None, Ok, int_lt, if◌then◌else◌}
use Rattle.std.specs.Int.{int_max}
use Rattle.std.specs.List.{fold}
use Rattle.std.proofs.lemmas.Int.{ints}
use Rattle.std.proofs.lemmas.Bool.{eq-eqb, ne_eqb}
use Rattle.std.proofs.lemmas.List.{append-nil}
use Rattle.sp_base.specs.Limits.{event_limit}
use Rattle.sp_io.specs.Outside.{SourceState}
use Rattle.sp_plan.specs.Events.{fits, AllFit}
use Rattle.sp_plan.specs.declared.event.Event.{Event}
use Rattle.sp_plan.specs.declared.plan.Plan.{Plan}
use Rattle.sp_cut.specs.declared.span.Span.{Span}
use Rattle.sp_cut.specs.Answer.{Begins, GivesRow}
use Rattle.sp_cut.specs.CutRows.{CutRow, row, long_row, open_quote}
use Rattle.sp_cut.specs.Growth.{RowsStay}
use Rattle.sp_cut.specs.Left.{Left, rows_left}
use Rattle.sp_cut.specs.Part.{left_behind}
use Rattle.sp_cut.specs.Span.{LiesNext, bytes_at}
use Rattle.sp_ports.specs.declared.stop.Failure.{Failure}
use Rattle.sp_ports.specs.declared.stop.Failure.TheVariants.{Row, Limit}
use Rattle.sp_ports.specs.declared.stop.Stop.TheVariants.{Failed}
use Rattle.sp_rows.specs.declared.fault.RowFault.{RowFault}
use Rattle.sp_rows.specs.declared.rows.Rows.{Rows}
use Rattle.sp_rows.specs.Codes.{code_of}
use Rattle.sp_rows.specs.Progress.{plan_of, is_loose, read_of, Answers}
use Rattle.sp_rows.specs.Rows.{RowsRead, RowResult, nothing, event, refused, row_result, given_if, time_place_in}
use Rattle.sp_slack.specs.HeldBack.{AreTimely, with_time, before, is_before, is_late}
use Rattle.sp_slack.specs.declared.late.LateRule.{LateRule}
use Rattle.sp_slack.specs.declared.late.LateRule.TheVariants.{Refuse, Drop}
use Rattle.sp_intake.specs.declared.reader.Step.{Step}
use Rattle.sp_intake.specs.declared.reader.Step.TheVariants as step
use Rattle.sp_intake.specs.declared.reader.Fate.{Fate}
use Rattle.sp_intake.specs.declared.reader.Fate.TheVariants.{Kept, PassedOver, Late, Full}
use Rattle.sp_intake.specs.Following.{ComeNext}
use Rattle.sp_intake.specs.Laws.{reads_none}
use Rattle.sp_intake.specs.Loose.{Lateness, Loose, reads_on, is_full, filled, with_late, with_result, with_row, take_row}
use Rattle.sp_intake.specs.LooseLaws.{punctual}
use Rattle.sp_intake.specs.Orderly.{one_next}
use Rattle.sp_intake.specs.Reader.{Reader, WereGiven, last_of, time_or_nought, texts_of, reading_of, IsReady, SuitsPlan, TakesRow, FailedBy, Fails, fate, fate_by, failure_by, late_failure}
use Rattle.sp_intake.specs.Reading.{Reading, stopped_by, end_stop}
use Rattle.sp_intake.specs.Standing.{Reads, going, given_by, state_by}
use Rattle.sp_intake.proofs.Leading.{taken_leads}
use Rattle.sp_intake.proofs.Since.{SameGiven, reads_failed, reads_ended, reads_events}
use Rattle.sp_intake.proofs.Suiting.{suits_still, loose_is, nothing_suits, event_suits, event_places, time_between}

-- a row that lies next is the first of those that are left
pub begins_at : (left mid : Left) (span : Span) (bytes : List ℕ) → mid ≡ left → bytes ≡ bytes_at mid span → LiesNext left span → Begins left (row bytes)
begins_at left mid span bytes same is next =
    (rows_left (left_behind left (span.size + span.feeds)), next.gives.first ∙ ap (λ (b : List ℕ). row b ∷ rows_left (left_behind left (span.size + span.feeds))) (ap (λ (l : Left). bytes_at l span) (sym same) ∙ sym is))

-- and is given from there
gives_at : (left mid new : Left) (span : Span) (bytes : List ℕ) → mid ≡ left → bytes ≡ bytes_at mid span → GivesRow mid (bytes_at mid span) new → GivesRow left bytes new
gives_at left mid new span bytes same is gives = subst (λ (l : Left). GivesRow l bytes new) same (subst (λ (b : List ℕ). GivesRow mid b new) (sym is) gives)

-- a reading that was stopped failed so
failed_by : (events : List Event) (late : ℕ) (known : List (List ℕ)) (failure : Failure) (r : Loose) (s : Reading) → r ≡ record { reading = stopped_by s failure; late = late } → s.events ≡ events → s.so_far.texts ≡ known → FailedBy events late known failure r
failed_by events late known failure r s is same texts = record {
  events = ap (λ (t : Loose). t.reading.events) is ∙ same;
  late = ap (λ (t : Loose). t.late) is;
  texts = ap (λ (t : Loose). t.reading.so_far.texts) is ∙ texts;
  stopped = ap (λ (t : Loose). t.reading.stopped) is;
}

module _ (old : Reader) (ready : IsReady old) (next : CutRow) where
  -- the limit of rows was reached
  pub full_fails : old.count ≡ 2097152 → Fails next (Limit 2097152) (texts_of old) old
  full_fails full first given =
      failed_by first old.late (texts_of old) (Limit 2097152) (take_row (plan_of old.rows) old.lateness (reading_of first old) next) (reading_of first old).reading
      (rw (eq-eqb (read_of old.rows).read 2097152 (sym ready.count ∙ full)) refl) refl refl

  pub taken : old.count ≢ 2097152 → (first : List Event) → take_row (plan_of old.rows) old.lateness (reading_of first old) next ≡ with_row (plan_of old.rows) old.lateness (reading_of first old) next
  taken less first = rw (ne_eqb (read_of old.rows).read 2097152 (λ is. less (ready.count ∙ is))) refl

-- there is no row in place of the next one
module _ (old : Reader) (ready : IsReady old) (less : old.count ≢ 2097152) where
  abbrev without : ℕ → List Event → ℕ → Loose
  without code first n = record { reading = stopped_by (reading_of first old).reading (Row code (n + 1) 0); late = old.late }

  pub long_fails : Fails long_row (Row 8 (old.count + 1) 0) (texts_of old) old
  long_fails first given =
      failed_by first old.late (texts_of old) (Row 8 (old.count + 1) 0) (take_row (plan_of old.rows) old.lateness (reading_of first old) long_row) (reading_of first old).reading
      (taken old ready long_row less first ∙ ap (without 8 first) (sym ready.count)) refl refl

  pub open_fails : Fails open_quote (Row 9 (old.count + 1) 0) (texts_of old) old
  open_fails first given =
      failed_by first old.late (texts_of old) (Row 9 (old.count + 1) 0) (take_row (plan_of old.rows) old.lateness (reading_of first old) open_quote) (reading_of first old).reading
      (taken old ready open_quote less first ∙ ap (without 9 first) (sym ready.count)) refl refl

-- a row is read
module _ (old : Reader) (ready : IsReady old) (less : old.count ≢ 2097152) (bytes : List ℕ) where
  abbrev given_now : RowResult
  given_now = given_if (is_loose old.rows) (row_result (plan_of old.rows) (read_of old.rows) bytes)

  read_as : (given : RowResult) → given_now ≡ given → (first : List Event) → take_row (plan_of old.rows) old.lateness (reading_of first old) (row bytes) ≡ with_result (plan_of old.rows) old.lateness (reading_of first old) given
  read_as given is first = taken old ready (row bytes) less first ∙ ap (with_result (plan_of old.rows) old.lateness (reading_of first old)) (loose_is old.rows ready.suits bytes given is)

  pub refused_fails : (fault : RowFault) → given_now ≡ refused fault → Fails (row bytes) (Row (code_of fault.kind) fault.row fault.column) (texts_of old) old
  refused_fails fault is first given =
      failed_by first old.late (texts_of old) (Row (code_of fault.kind) fault.row fault.column) (take_row (plan_of old.rows) old.lateness (reading_of first old) (row bytes)) (reading_of first old).reading
      (read_as (refused fault) is first) refl refl

  pub nothing_takes : (new : Reader) → given_now ≡ nothing (read_of new.rows) → new.late ≡ old.late → TakesRow (row bytes) [] old new
  nothing_takes new is late first given =
      ap (λ (events : List Event). reading_of events new) (append-nil first)
      ∙ ap (λ (n : ℕ). record { reading = record { so_far = read_of new.rows; events = first; stopped = None }; late = n }) late
      ∙ sym (read_as (nothing (read_of new.rows)) is first)

  -- the row gave an event, of which it was asked what becomes of it
  module _ (mid : Reader) (e : Event) (is : given_now ≡ event e (read_of mid.rows)) (counted : mid.count ≡ (read_of old.rows).read + 1) (plan : plan_of mid.rows ≡ plan_of old.rows)
      (given : mid.given ≡ old.given) (late : mid.late ≡ old.late) (latest : mid.greatest ≡ old.greatest) (lateness : mid.lateness ≡ old.lateness) where
    abbrev so_far : RowsRead
    so_far = read_of mid.rows

    abbrev failure : Failure
    failure = Row 6 ((read_of old.rows).read + 1) (time_place_in (plan_of old.rows) (read_of old.rows).places)

    abbrev is_late_now : Bool
    is_late_now = is_before (before old.lateness.slack old.greatest) e

    abbrev full_now : Bool
    full_now = old.given + old.late == event_limit

    fate_is : fate mid e ≡ fate_by is_late_now old.lateness.rule full_now
    fate_is = λ i. fate_by (is_before (before (lateness i).slack (latest i)) e) (lateness i).rule (given i + late i == event_limit)

    failure_is : late_failure mid ≡ failure
    failure_is = λ i. Row 6 (counted i) (time_place_in (plan i) (event_places old.rows mid.rows ready.suits bytes e is i))

    -- the same as the reading asks it
    module _ (first : List Event) (were : WereGiven first old) where
      abbrev r : Loose
      r = reading_of first old

      late_is : is_late old.lateness.slack first e ≡ is_late_now
      late_is = ap (λ (t : Option ℤ). is_before (before old.lateness.slack t) e) were.latest

      full_is : is_full r ≡ full_now
      full_is = ap (λ (n : ℕ). n + old.late == event_limit) were.count

      abbrev late_so : LateRule → Bool → Loose
      late_so Refuse full = reads_on r (stopped_by r.reading failure)
      late_so Drop full = if full then filled r so_far else record { reading = record r.reading { so_far = so_far }; late = r.late + 1 }

      abbrev event_so : Bool → LateRule → Bool → Loose
      event_so late rule full =
          if late then late_so rule full
          else if full then filled r so_far
          else reads_on r (record r.reading { so_far = so_far; events = first ++ e ∷ [] })

      by_rule : (rule : LateRule) → with_late (plan_of old.rows) rule r so_far ≡ late_so rule (is_full r)
      by_rule Refuse = refl
      by_rule Drop = refl

      so : take_row (plan_of old.rows) old.lateness r (row bytes) ≡ event_so is_late_now old.lateness.rule full_now
      so =
          read_as (event e so_far) is first
          ∙ ap (λ (l : Loose). if is_late old.lateness.slack first e then l
          else if is_full r then filled r so_far
          else reads_on r (record r.reading { so_far = so_far; events = first ++ e ∷ [] })) (by_rule old.lateness.rule)
          ∙ (λ i. event_so (late_is i) old.lateness.rule (full_is i))

    -- it is given
    kept_so : (late full : Bool) (rule : LateRule) → fate_by late rule full ≡ Kept → (first : List Event) (were : WereGiven first old)
        → event_so first were late rule full ≡ reads_on (reading_of first old) (record (reading_of first old).reading { so_far = so_far; events = first ++ e ∷ [] })
    kept_so true full Refuse kept first were = absurd (cc kept)
    kept_so true true Drop kept first were = absurd (cc kept)
    kept_so true false Drop kept first were = absurd (cc kept)
    kept_so false true rule kept first were = absurd (cc kept)
    kept_so false false rule kept first were = refl

    pub kept_takes : fate mid e ≡ Kept → (new : Reader) → read_of new.rows ≡ read_of mid.rows → new.late ≡ old.late → TakesRow (row bytes) (e ∷ []) old new
    kept_takes kept new same_rows same first were =
        (λ i. record { reading = record { so_far = same_rows i; events = first ++ e ∷ []; stopped = None }; late = same i })
        ∙ sym (so first were ∙ kept_so is_late_now full_now old.lateness.rule (sym fate_is ∙ kept) first were)

    -- and it was not late
    kept_by : (late full : Bool) (rule : LateRule) → fate_by late rule full ≡ Kept → late ≡ false
    kept_by true full Refuse kept = absurd (cc kept)
    kept_by true true Drop kept = absurd (cc kept)
    kept_by true false Drop kept = absurd (cc kept)
    kept_by false full rule kept = refl

    pub kept_timely : fate mid e ≡ Kept → is_before (before old.lateness.slack old.greatest) e ≡ false
    kept_timely kept = kept_by is_late_now full_now old.lateness.rule (sym fate_is ∙ kept)

    -- it is passed over
    passed_so : (late full : Bool) (rule : LateRule) → fate_by late rule full ≡ PassedOver → (first : List Event) (were : WereGiven first old)
        → event_so first were late rule full ≡ record { reading = record (reading_of first old).reading { so_far = so_far }; late = old.late + 1 }
    passed_so true full Refuse passed first were = absurd (cc passed)
    passed_so true true Drop passed first were = absurd (cc passed)
    passed_so true false Drop passed first were = refl
    passed_so false true rule passed first were = absurd (cc passed)
    passed_so false false rule passed first were = absurd (cc passed)

    pub passed_takes : fate mid e ≡ PassedOver → (new : Reader) → read_of new.rows ≡ read_of mid.rows → new.late ≡ old.late + 1 → TakesRow (row bytes) [] old new
    passed_takes passed new same_rows more first were =
        ap (λ (events : List Event). reading_of events new) (append-nil first)
        ∙ (λ i. record { reading = record { so_far = same_rows i; events = first; stopped = None }; late = more i })
        ∙ sym (so first were ∙ passed_so is_late_now full_now old.lateness.rule (sym fate_is ∙ passed) first were)

    -- the texts that are known where the reading stops at it: those of its row too, where it is not late
    abbrev pub known_at : Fate → List (List ℕ)
    known_at Kept = so_far.texts
    known_at PassedOver = so_far.texts
    known_at Late = texts_of old
    known_at Full = so_far.texts

    -- the reading stops at it
    fails_so : (late full : Bool) (rule : LateRule) (own : Failure) → failure_by (fate_by late rule full) failure ≡ Some own → (first : List Event) (were : WereGiven first old)
        → FailedBy first old.late (known_at (fate_by late rule full)) own (event_so first were late rule full)
    fails_so true full Refuse own stops first were = record { events = refl; late = refl; texts = refl; stopped = stops }
    fails_so true true Drop own stops first were = record { events = refl; late = refl; texts = refl; stopped = stops }
    fails_so true false Drop own stops first were = absurd (cc stops)
    fails_so false true rule own stops first were = record { events = refl; late = refl; texts = refl; stopped = stops }
    fails_so false false rule own stops first were = absurd (cc stops)

    pub event_fails : (given_fate : Fate) → fate mid e ≡ given_fate → (own : Failure) → failure_by given_fate (late_failure mid) ≡ Some own → Fails (row bytes) own (known_at given_fate) old
    event_fails given_fate fated own stops first were =
        let here : fate_by is_late_now old.lateness.rule full_now ≡ given_fate = sym fate_is ∙ fated in
        let same : failure_by (fate_by is_late_now old.lateness.rule full_now) failure ≡ failure_by given_fate (late_failure mid) = sym (λ i. failure_by (sym here i) (failure_is i)) in
        subst (λ (f : Fate). FailedBy first old.late (known_at f) own (take_row (plan_of old.rows) old.lateness (reading_of first old) (row bytes))) here
        (subst (FailedBy first old.late (known_at (fate_by is_late_now old.lateness.rule full_now)) own) (sym (so first were)) (fails_so is_late_now full_now old.lateness.rule own (same ∙ stops) first were))

-- where an event is not refused, the limit was not reached
not_full_by : (late full : Bool) (rule : LateRule) → (fate_by late rule full ≡ Late → full ≡ false) → (fate_by late rule full ≡ Full → full ≡ false) → full ≡ false
not_full_by late false rule first other = refl
not_full_by true true Refuse first other = first refl
not_full_by true true Drop first other = other refl
not_full_by false true rule first other = other refl

pub not_full : (reader : Reader) (e : Event) (own : Fate) → fate reader e ≡ own → own ≢ Late → own ≢ Full → (reader.given + reader.late == event_limit) ≡ false
not_full reader e own is not_late not_over =
    not_full_by (is_before (before reader.lateness.slack reader.greatest) e) (reader.given + reader.late == event_limit) reader.lateness.rule
    (λ late. absurd (not_late (sym is ∙ late))) (λ over. absurd (not_over (sym is ∙ over)))

-- without a slack, an event that is not late comes next
pub comes_next : (q : Plan) (l : Lateness) (old new : Option ℤ) (e : Event) → l ≡ punctual → fits q e ≡ true → is_before (before l.slack old) e ≡ false → new ≡ with_time old e
    → ComeNext q (time_or_nought old) (e ∷ []) (time_or_nought new)
comes_next q l None new e on_time fit timely is = one_next q (pos 0) (time_or_nought new) e fit (time_between q e fit).0 (ap time_or_nought is)
comes_next q l (Some t) new e on_time fit timely is =
    let slack : l.slack ≡ pos 0 = ap (λ (own : Lateness). own.slack) on_time in
    let later : int_lt e.time (t -ℤ l.slack) ≡ false = timely in
    let le : t ≤ℤ e.time = grind (arith, ints, slack, later) in
    let most : int_max t e.time ≡ e.time = grind (arith, ints, le) in
    one_next q t (time_or_nought new) e fit le (ap time_or_nought is ∙ most)

-- whatever a row gave, what was read of it suits the plan
pub row_suits : (old new : Rows) → SuitsPlan old → (bytes : List ℕ) (put : Option Event) → Answers (given_if (is_loose old) (row_result (plan_of old) (read_of old) bytes)) (read_of old) (read_of new) (Ok put)
    → plan_of new ≡ plan_of old → is_loose new ≡ is_loose old → SuitsPlan new
row_suits old new suits bytes None answers = nothing_suits old new suits bytes answers
row_suits old new suits bytes (Some e) answers = event_suits old new suits bytes e answers

-- the reading stops at a row, and this is told
module _ (stay : RowsStay) (source : SourceState) (old new : Reader) (next : CutRow) (failure : Failure) (told : Step) (put : Option Event) where
  pub reads_refused : told ≡ step.Stop (Failed failure) → Begins old.cutter next → Fails next failure (texts_of new) old → SameGiven old new
      → Reads (going source old) [] (given_by told put) (record { source = source; state = state_by told; reader = new })
  reads_refused is begins fails still =
      subst (λ (s : Step). Reads (going source old) [] (given_by s put) (record { source = source; state = state_by s; reader = new })) (sym is)
      (reads_failed source old new next failure stay begins fails still)

-- a row was taken
module _ (source : SourceState) (old new : Reader) (mid : Left) (span : Span) (bytes : List ℕ) (given : List Event) where
  pub reads_row : mid ≡ old.cutter → bytes ≡ bytes_at mid span → GivesRow mid (bytes_at mid span) new.cutter → plan_of new.rows ≡ plan_of old.rows → new.lateness ≡ old.lateness → new.given ≡ old.given + length given
      → new.greatest ≡ fold with_time old.greatest given → AllFit (plan_of old.rows) given → ((first : List Event) → WereGiven first old → AreTimely old.lateness.slack first given) → TakesRow (row bytes) given old new
      → (old.lateness ≡ punctual → ComeNext (plan_of old.rows) (last_of old) given (last_of new)) → length given ≤ event_limit → Reads (going source old) [] given (going source new)
  reads_row same is gives plan lateness count latest fit timely takes comes few =
      let at = gives_at old.cutter mid new.cutter span bytes same is gives in
      reads_events source old new given (taken_leads old new (row bytes) given plan lateness count latest takes at.ended at.first at.coming) fit timely comes few

-- no row is left: at the end of the input it stops, and else it asks
module _ (source : SourceState) (old : Reader) (put : Option Event) where
  abbrev told_at : Bool → Step
  told_at ended = if ended then step.Stop (end_stop (read_of old.rows).places) else step.Ask

  by_end : rows_left old.cutter ≡ [] → (ended : Bool) → old.cutter.ended ≡ ended → Reads (going source old) [] (given_by (told_at ended) put) (record { source = source; state = state_by (told_at ended); reader = old })
  by_end none true ended = reads_ended source old (end_stop (read_of old.rows).places) none ended refl
  by_end none false ended = reads_none (going source old)

  pub reads_at_end : (cutter : Left) (told : Step) → cutter ≡ old.cutter → rows_left old.cutter ≡ [] → told ≡ (if cutter.ended then step.Stop (end_stop (read_of old.rows).places) else step.Ask)
      → Reads (going source old) [] (given_by told put) (record { source = source; state = state_by told; reader = record old { cutter = cutter } })
  reads_at_end cutter told same none is =
      let at : told ≡ told_at old.cutter.ended = is ∙ ap (λ (l : Left). told_at l.ended) same in
      subst (λ (l : Left). Reads (going source old) [] (given_by told put) (record { source = source; state = state_by told; reader = record old { cutter = l } })) (sym same)
      (subst (λ (s : Step). Reads (going source old) [] (given_by s put) (record { source = source; state = state_by s; reader = old })) (sym at) (by_end none old.cutter.ended refl))

module _ (old new : Reader) (ready : IsReady old) where
  -- a row more was read and cut
  pub ready_row : old.count ≢ 2097152 → new.count ≡ old.count + 1 → (read_of new.rows).read ≡ (read_of old.rows).read + 1 → new.cutter.given ≡ old.cutter.given + 1 → SuitsPlan new.rows → IsReady new
  ready_row less count read cut suits = record {
    count = omega (arith, count, read, ready.count);
    small = omega (arith, count, less, ready.small);
    cut = omega (arith, cut, count, ready.cut);
    suits = suits;
  }

  -- or none
  pub ready_still : new.count ≡ old.count → plan_of new.rows ≡ plan_of old.rows → read_of new.rows ≡ read_of old.rows → is_loose new.rows ≡ is_loose old.rows → new.cutter.given ≡ old.cutter.given → IsReady new
  ready_still count plan read same cut = record {
    count = count ∙ ready.count ∙ ap (λ (r : RowsRead). r.read) (sym read);
    small = omega (arith, count, ready.small);
    cut = omega (arith, cut, count, ready.cut);
    suits = suits_still old.rows new.rows ready.suits plan read same;
  }
