-- What an input gave since its source stood at its start, from one step to the next.
use Rattle.std.proofs.Common.{◌≡◌, ◌≢◌, ◌+◌, inl, inr, ℕ, ℤ, ◌<◌, ◌≤◌, Bool, true, false, List, [], ◌++◌, length, take, refl, sym, ◌∙◌, ap, subst, append_assoc, length-append, arith}
use Rattle.std.proofs.lemmas.List.{append-nil, length-take}
use Rattle.std.specs.Prelude.{Option, Some, None, is_some, IfSome}
use Rattle.std.specs.List.{fold}
use Rattle.std.proofs.lemmas.List.Sums.{fold-append}
use Rattle.sp_base.specs.Limits.{event_limit, piece_limit}
use Rattle.sp_io.specs.Outside.{SourceState, Gave, Rose}
use Rattle.sp_plan.specs.Compiled.{IsTimeOf}
use Rattle.sp_plan.specs.declared.event.Event.{Event}
use Rattle.sp_plan.specs.declared.plan.Plan.{Plan}
use Rattle.sp_cut.specs.CutRows.{CutRow}
use Rattle.sp_cut.specs.Left.{Left, rows_left}
use Rattle.sp_cut.specs.Answer.{Begins, with_more}
use Rattle.sp_cut.specs.Growth.{RowsStay}
use Rattle.sp_ports.specs.declared.stop.Failure.{Failure}
use Rattle.sp_ports.specs.declared.stop.Stop.{Stop}
use Rattle.sp_ports.specs.declared.stop.Stop.TheVariants.{Failed, Open}
use Rattle.sp_rows.specs.Progress.{plan_of, read_of}
use Rattle.std.proofs.lemmas.List.Elements.{All-nil}
use Rattle.sp_plan.specs.Events.{fits, AllFit}
use Rattle.sp_slack.specs.HeldBack.{AreTimely, with_time}
use Rattle.sp_intake.specs.declared.reader.State.{State}
use Rattle.sp_intake.specs.declared.reader.State.TheVariants.{Going, Stopped, Broken}
use Rattle.sp_intake.specs.Coming.{comes_to, ends_as, IsSettled, LeadsAs}
use Rattle.sp_intake.specs.Following.{ComeNext}
use Rattle.sp_intake.specs.Intake.{StopsInPiece, TakesNoFurther}
use Rattle.sp_intake.specs.Laws.{reads_none, reads_more}
use Rattle.sp_intake.specs.Orderly.{same_next}
use Rattle.sp_intake.specs.Loose.{Lateness, Loose, take_row, loose, kept}
use Rattle.sp_intake.specs.LooseLaws.{punctual}
use Rattle.sp_intake.specs.Reader.{Reader, AreCounted, WereGiven, last_of, time_or_nought, texts_of, reading_of, Fails}
use Rattle.sp_intake.specs.Reading.{Way, read, stop_of, stop_or, end_stop}
use Rattle.sp_intake.specs.Standing.{RowsAt, going, IsFront, HasRead, HasReadBy, Leads, Since, Reads, RowsGive}
use Rattle.sp_intake.proofs.Gave.{gave_none, gave_more}
use Rattle.sp_intake.proofs.Leading.{IsUnread, open_settled, settled_is, begins_still, fails_at, fed_leads, comes_to_end, unread_leads}
use Rattle.sp_intake.proofs.LooseGrowing.{rows_grow}
use Rattle.sp_intake.proofs.LooseReading.{loose_same}

-- one step behind another
pub rows_more : (a b c : RowsAt) (xs ys : List Event) → c.reader.given + c.reader.late ≤ event_limit → RowsGive a xs b → RowsGive b ys c → RowsGive a (xs ++ ys) c
rows_more a b c xs ys small one two =
    (one.0 ++ two.0, reads_more a b c one.0 two.0 xs ys (omega (arith, length-append xs ys, one.1.count, two.1.count, small)) one.1 two.1)

-- a step that gives nothing, behind others
pub rows_still : (a b c : RowsAt) (xs : List Event) → RowsGive a xs b → RowsGive b [] c → RowsGive a xs c
rows_still a b c xs one two =
    subst (λ (events : List Event). RowsGive a events c) (append-nil xs)
    (one.0 ++ two.0, reads_more a b c one.0 two.0 xs [] (omega (arith, length-append xs [], one.1.few)) one.1 two.1)

-- one piece was read behind bytes that had not stopped the reading
pub no_further_piece : (way : Way) (front piece : List ℕ) → (way front false).stopped ≡ None → length piece ≤ piece_limit → StopsInPiece way (front ++ piece)
no_further_piece way front piece going short = record {
  front = front;
  piece = piece;
  are = refl;
  short = short;
  goes_on = going;
}

-- a front of a buffer is a piece
pub few_taken : (n : ℕ) (buffer : List ℕ) → length buffer ≤ piece_limit → length (take n buffer) ≤ piece_limit
few_taken n buffer small = omega (arith, small, length-take n buffer)

-- nothing was taken
pub no_further_none : (q : Plan) → TakesNoFurther q []
no_further_none q = no_further_piece (read q) [] [] refl (omega arith)

-- a list is its own front
front_itself : (events : List Event) → IsFront events events
front_itself events = ([], sym (append-nil events))

-- what an input that goes on has given comes first among what the bytes taken give
leads_front : (q : Plan) (l : Lateness) (taken : List ℕ) (events : List Event) (now : RowsAt) → Leads q l taken events now → IsFront events (kept q l taken now.source.ended).events
leads_front q l taken events now leads = by now.reader.cutter.ended refl
  where
    own : Plan
    own = plan_of now.reader.rows

    by : (ended : Bool) → now.reader.cutter.ended ≡ ended → IsFront events (kept q l taken now.source.ended).events
    by false is =
        let same : comes_to events now.reader [] false ≡ loose q l taken now.source.ended =
        leads.coming is [] false ∙ ap (λ (bytes : List ℕ). loose q l bytes false) (append-nil taken) ∙ ap (loose q l taken) (sym (leads.ended ∙ is)) in
        subst (λ (r : Loose). IsFront events r.reading.events) same
        (rows_grow own now.reader.lateness (reading_of events now.reader) (rows_left (with_more now.reader.cutter [] false)))
    by true is =
        let same : ends_as events now.reader ≡ loose q l taken now.source.ended = leads.ends is ∙ ap (loose q l taken) (sym (leads.ended ∙ is)) in
        subst (λ (r : Loose). IsFront events r.reading.events) same (rows_grow own now.reader.lateness (reading_of events now.reader) (rows_left now.reader.cutter))

-- a reader gave these events and others behind them
given_more : (old new : Reader) (first events : List Event) → WereGiven first old → LeadsAs events old new → WereGiven (first ++ events) new
given_more old new first events given leads = record {
  count = omega (arith, length-append first events, given.count, leads.count);
  latest = fold-append with_time None first events ∙ ap (λ (t : Option ℤ). fold with_time t events) given.latest ∙ sym leads.latest;
}

-- no more events
same_given : (many : ℕ) (last : Option ℤ) (first : List Event) → AreCounted first many last → AreCounted (first ++ []) many last
same_given many last first = subst (λ (events : List Event). AreCounted events many last) (sym (append-nil first))

given_still : (old new : Reader) → new.given ≡ old.given → new.greatest ≡ old.greatest → (first : List Event) → WereGiven first old → WereGiven (first ++ []) new
given_still old new count latest first were = same_given new.given new.greatest first (record { count = were.count ∙ sym count; latest = were.latest ∙ sym latest })

-- a count that did not rise
quiet : {P : Type 0} (before now next : ℕ) → (before < now → P) → next ≡ now → before < next → P
quiet before now next told same rose = told (omega (arith, rose, same))

-- no byte more was taken
untaken : (q : Plan) (l : Lateness) (origin : SourceState) (taken : List ℕ) (events : List Event) (now : RowsAt) → Since q l origin taken events now → Since q l origin (taken ++ []) events now
untaken q l origin taken events now = subst (λ (bytes : List ℕ). Since q l origin bytes events now) (sym (append-nil taken))

-- an input that goes on and its rows: events were given, and the source was not asked
module _ (source : SourceState) (old new : Reader) (events : List Event) where
  pub reads_events : LeadsAs events old new → AllFit (plan_of old.rows) events → ((first : List Event) → WereGiven first old → AreTimely old.lateness.slack first events) → (old.lateness ≡ punctual → ComeNext (plan_of old.rows) (last_of old) events (last_of new)) → length events ≤ event_limit
      → Reads (going source old) [] events (going source new)
  reads_events leads fit timely next few = record {
    plan = leads.plan;
    lateness = leads.lateness;
    count = leads.count;
    few = few;
    fit = fit;
    timely = timely;
    were = λ first were. given_more old new first events were leads;
    next = next;
    since = λ q l origin taken first since.
        let was = since.leads refl in
        let on : Leads q l taken (first ++ events) (going source new) = record {
          given = given_more old new first events was.given leads;
          ended = was.ended ∙ sym leads.ended;
          coming = λ going more ended. leads.coming (sym leads.ended ∙ going) first was.given more ended ∙ was.coming (sym leads.ended ∙ going) more ended;
          ends = λ is. leads.ends first was.given ∙ was.ends (sym leads.ended ∙ is);
        } in
        untaken q l origin taken (first ++ events) (going source new) (record {
          plan = leads.plan ∙ since.plan;
          lateness = leads.lateness ∙ since.lateness;
          has = record {
            gave = since.has.gave;
            no_further = since.has.no_further;
            front = leads_front q l taken (first ++ events) (going source new) on;
            all = tt;
            stop = tt;
            fault = λ is. absurd (cc is);
            told = since.has.told;
            never_falls = since.has.never_falls;
          };
          late = tt;
          texts = tt;
          leads = λ is. on;
        });
  }

-- memory ran out among the rows
module _ (source : SourceState) (old new : Reader) where
  pub reads_broken : plan_of new.rows ≡ plan_of old.rows → new.lateness ≡ old.lateness → new.given ≡ old.given → new.greatest ≡ old.greatest
      → Reads (going source old) [] [] (record { source = source; state = Broken; reader = new })
  reads_broken plan lateness count latest = record {
    plan = plan;
    lateness = lateness;
    count = omega (arith, count);
    few = omega arith;
    fit = All-nil (λ x. fits (plan_of old.rows) x ≡ true);
    timely = λ first were. tt;
    were = given_still old new count latest;
    next = λ on_time. same_next (plan_of old.rows) (last_of old) (last_of new) (ap time_or_nought latest);
    since = λ q l origin taken first since. untaken q l origin taken (first ++ []) (record { source = source; state = Broken; reader = new }) (record {
      plan = plan ∙ since.plan;
      lateness = lateness ∙ since.lateness;
      has = record {
        gave = since.has.gave;
        no_further = since.has.no_further;
        front = subst (λ (events : List Event). IsFront events (kept q l taken source.ended).events) (sym (append-nil first)) since.has.front;
        all = tt;
        stop = tt;
        fault = λ is. absurd (cc is);
        told = since.has.told;
        never_falls = since.has.never_falls;
      };
      late = tt;
      texts = tt;
      leads = λ is. absurd (cc is);
    });
  }

-- the end of an input is not open
closed_end : (places : Option (List ℕ)) → end_stop places ≢ Open
closed_end None = λ is. cc
closed_end (Some places) = λ is. cc

-- a settled input has read what its bytes give
pub settled_read : (q : Plan) (l : Lateness) (taken : List ℕ) (events : List Event) (now : RowsAt) → Leads q l taken events now → IsSettled now.reader → reading_of events now.reader ≡ loose q l taken now.source.ended
settled_read q l taken events now leads settled = by now.reader.cutter.ended refl
  where
    by : (ended : Bool) → now.reader.cutter.ended ≡ ended → reading_of events now.reader ≡ loose q l taken now.source.ended
    by false is =
        open_settled now.reader events is settled ∙ leads.coming is [] false ∙ ap (λ (bytes : List ℕ). loose q l bytes false) (append-nil taken) ∙ ap (loose q l taken) (sym (leads.ended ∙ is))
    by true is = sym (settled_is now.reader events settled) ∙ leads.ends is ∙ ap (loose q l taken) (sym (leads.ended ∙ is))

-- an input whose next row stops the reading has with that row read what its bytes give
failed_read : RowsStay → (q : Plan) (l : Lateness) (taken : List ℕ) (events : List Event) (now : RowsAt) (next : CutRow) → Leads q l taken events now → Begins now.reader.cutter next
    → is_some (take_row (plan_of now.reader.rows) now.reader.lateness (reading_of events now.reader) next).reading.stopped ≡ true
    → take_row (plan_of now.reader.rows) now.reader.lateness (reading_of events now.reader) next ≡ loose q l taken now.source.ended
failed_read stay q l taken events now next leads begins stopped = by now.reader.cutter.ended refl
  where
    own : Plan
    own = plan_of now.reader.rows

    late : Lateness
    late = now.reader.lateness

    r : Loose
    r = reading_of events now.reader

    by : (ended : Bool) → now.reader.cutter.ended ≡ ended → take_row own late r next ≡ loose q l taken now.source.ended
    by false is =
        let still = begins_still stay now.reader.cutter next [] false is begins in
        fails_at own late r next (rows_left (with_more now.reader.cutter [] false)) still.0 stopped still.1
        ∙ leads.coming is [] false ∙ ap (λ (bytes : List ℕ). loose q l bytes false) (append-nil taken) ∙ ap (loose q l taken) (sym (leads.ended ∙ is))
    by true is = fails_at own late r next (rows_left now.reader.cutter) begins.0 stopped begins.1 ∙ leads.ends is ∙ ap (loose q l taken) (sym (leads.ended ∙ is))

-- reading stops, with what was read: at the end of the input
module _ (source : SourceState) (reader : Reader) (stop : Stop) where
  pub reads_ended : IsSettled reader → reader.cutter.ended ≡ true → stop ≡ end_stop (read_of reader.rows).places → Reads (going source reader) [] [] (record { source = source; state = Stopped stop; reader = reader })
  reads_ended settled ended is = record {
    plan = refl;
    lateness = refl;
    count = omega arith;
    few = omega arith;
    fit = All-nil (λ x. fits (plan_of reader.rows) x ≡ true);
    timely = λ first were. tt;
    were = same_given reader.given reader.greatest;
    next = λ on_time. same_next (plan_of reader.rows) (last_of reader) (last_of reader) refl;
    since = λ q l origin taken first since.
        let now : RowsAt = going source reader in
        let was = since.leads refl in
        let same = settled_read q l taken first now was settled in
        let events = append-nil first in
        untaken q l origin taken (first ++ []) (record { source = source; state = Stopped stop; reader = reader }) (record {
          plan = since.plan;
          lateness = since.lateness;
          has = record {
            gave = since.has.gave;
            no_further = since.has.no_further;
            front = subst (λ (events : List Event). IsFront events (kept q l taken source.ended).events) (sym events) since.has.front;
            all = events ∙ ap (λ (r : Loose). r.reading.events) same;
            stop = is ∙ ap (stop_of (reading_of first reader).reading) (sym (was.ended ∙ ended)) ∙ ap (λ (r : Loose). stop_of r.reading source.ended) same;
            fault = λ open_. absurd (closed_end (read_of reader.rows).places (sym is ∙ cc open_));
            told = λ rose. absurd (cc (since.has.told rose));
            never_falls = since.has.never_falls;
          };
          late = ap (λ (r : Loose). r.late) same;
          texts = ap (λ (r : Loose). r.reading.so_far.texts) same;
          leads = λ going. absurd (cc going);
        });
  }

-- a reader gave no event and passed none over
pub record SameGiven (old new : Reader) : Type 0 where
  pub plan : plan_of new.rows ≡ plan_of old.rows
  pub lateness : new.lateness ≡ old.lateness
  pub given : new.given ≡ old.given
  pub late : new.late ≡ old.late
  pub greatest : new.greatest ≡ old.greatest

-- and at a row that stops it
module _ (source : SourceState) (old new : Reader) (next : CutRow) (failure : Failure) where
  pub reads_failed : RowsStay → Begins old.cutter next → Fails next failure (texts_of new) old → SameGiven old new
      → Reads (going source old) [] [] (record { source = source; state = Stopped (Failed failure); reader = new })
  reads_failed stay begins fails still = record {
    plan = still.plan;
    lateness = still.lateness;
    count = omega (arith, still.given);
    few = omega arith;
    fit = All-nil (λ x. fits (plan_of old.rows) x ≡ true);
    timely = λ first were. tt;
    were = given_still old new still.given still.greatest;
    next = λ on_time. same_next (plan_of old.rows) (last_of old) (last_of new) (ap time_or_nought still.greatest);
    since = λ q l origin taken first since.
        let was = since.leads refl in
        let by = fails first was.given in
        let same = failed_read stay q l taken first (going source old) next was begins (ap is_some by.stopped) in
        let events = append-nil first in
        let all : first ++ [] ≡ (kept q l taken source.ended).events = events ∙ sym by.events ∙ ap (λ (r : Loose). r.reading.events) same in
        let r : Loose = take_row (plan_of old.rows) old.lateness (reading_of first old) next in
        let stop : Failed failure ≡ stop_of (kept q l taken source.ended) source.ended =
        sym (ap (stop_or r.reading source.ended) by.stopped) ∙ ap (λ (s : Loose). stop_of s.reading source.ended) same in
        untaken q l origin taken (first ++ []) (record { source = source; state = Stopped (Failed failure); reader = new }) (record {
          plan = still.plan ∙ since.plan;
          lateness = still.lateness ∙ since.lateness;
          has = record {
            gave = since.has.gave;
            no_further = since.has.no_further;
            front = subst (λ (events : List Event). IsFront events (kept q l taken source.ended).events) (sym events) since.has.front;
            all = all;
            stop = stop;
            fault = λ open_. absurd (cc open_);
            told = λ rose. absurd (cc (since.has.told rose));
            never_falls = since.has.never_falls;
          };
          late = still.late ∙ sym by.late ∙ ap (λ (r : Loose). r.late) same;
          texts = sym by.texts ∙ ap (λ (r : Loose). r.reading.so_far.texts) same;
          leads = λ going. absurd (cc going);
        });
  }

-- a count that rose since a later moment rose since an earlier one
rose_since : (before now next : ℕ) → before ≤ now → Rose now next → Rose before next
rose_since before now next le rose = elim rose [
  | inl more ↦ inl (omega (arith, le, more))
  | inr full ↦ inr full
]

-- what was read of an input that asks for bytes goes on
pub read_goes : (q : Plan) (l : Lateness) (taken : List ℕ) (events : List Event) (now : RowsAt) → Leads q l taken events now → IsSettled now.reader → now.reader.cutter.ended ≡ false → (kept q l taken false).stopped ≡ None
read_goes q l taken events now leads settled open_ = sym (ap (λ (r : Loose). r.reading.stopped) (settled_read q l taken events now leads settled ∙ ap (loose q l taken) (leads.ended ∙ open_)))

-- no row is left, and the input goes on: so the source is asked
module _ (source next : SourceState) (reader : Reader) (settled : IsSettled reader) (open_ : reader.cutter.ended ≡ false) where
  -- the source failed
  pub reads_open : Gave source.left [] next.left → next.ended ≡ source.ended → Rose source.faults next.faults → source.faults ≤ next.faults
      → Reads (going source reader) [] [] (record { source = next; state = Stopped Open; reader = reader })
  reads_open gave ended rose falls = record {
    plan = refl;
    lateness = refl;
    count = omega arith;
    few = omega arith;
    fit = All-nil (λ x. fits (plan_of reader.rows) x ≡ true);
    timely = λ first were. tt;
    were = same_given reader.given reader.greatest;
    next = λ on_time. same_next (plan_of reader.rows) (last_of reader) (last_of reader) refl;
    since = λ q l origin before first since.
        let now : RowsAt = going source reader in
        let was = since.leads refl in
        let taken = before ++ [] in
        let bytes = append-nil before in
        let is_open : next.ended ≡ false = ended ∙ was.ended ∙ open_ in
        let same : reading_of first reader ≡ loose q l taken next.ended =
        settled_read q l before first now was settled ∙ ap (λ (bytes : List ℕ). loose q l bytes source.ended) (sym bytes) ∙ ap (loose q l taken) (sym ended) in
        let all : first ++ [] ≡ (kept q l taken next.ended).events = append-nil first ∙ ap (λ (r : Loose). r.reading.events) same in
        let stop : Open ≡ stop_of (kept q l taken next.ended) next.ended =
        ap (λ (r : Loose). stop_of r.reading false) same ∙ ap (stop_of (kept q l taken next.ended)) (sym is_open) in
        record {
          plan = since.plan;
          lateness = since.lateness;
          has = record {
            gave = gave_more origin.left source.left next.left before [] since.has.gave gave;
            no_further = subst (StopsInPiece (kept q l)) (sym bytes) since.has.no_further;
            front = subst (λ (events : List Event). IsFront (first ++ []) events) all (front_itself (first ++ []));
            all = all;
            stop = stop;
            fault = λ is. rose_since origin.faults source.faults next.faults since.has.never_falls rose;
            told = λ more. refl;
            never_falls = omega (arith, since.has.never_falls, falls);
          };
          late = ap (λ (r : Loose). r.late) same;
          texts = ap (λ (r : Loose). r.reading.so_far.texts) same;
          leads = λ is. absurd (cc is);
        };
  }

  module _ (piece : List ℕ) (short : length piece ≤ piece_limit) (gave : Gave source.left piece next.left) (ended : next.ended ≡ source.ended) (faults : next.faults ≡ source.faults) where
    -- a piece more
    pub reads_piece : (cutter : Left) → cutter ≡ record reader.cutter { bytes = reader.cutter.bytes ++ piece } → Reads (going source reader) piece [] (going next (record reader { cutter = cutter }))
    reads_piece cutter fed = record {
      plan = refl;
      lateness = refl;
      count = omega arith;
      few = omega arith;
      fit = All-nil (λ x. fits (plan_of reader.rows) x ≡ true);
      timely = λ first were. tt;
      were = same_given reader.given reader.greatest;
      next = λ on_time. same_next (plan_of reader.rows) (last_of reader) (last_of reader) refl;
      since = λ q l origin before first since.
          let was = since.leads refl in
          let taken = before ++ piece in
          let after : Reader = record reader { cutter = cutter } in
          let open_after : cutter.ended ≡ false = ap (λ (l : Left). l.ended) fed ∙ open_ in
          let on_first : Leads q l taken first (going next after) = record {
            given = was.given;
            ended = ended ∙ was.ended ∙ open_ ∙ sym open_after;
            coming = λ going more end. fed_leads reader cutter piece fed first more end ∙ was.coming open_ (piece ++ more) end ∙ ap (λ (bytes : List ℕ). loose q l bytes end) (sym (append_assoc before piece more));
            ends = λ is. absurd (let bad : false ≡ true = sym open_after ∙ is in cc bad);
          } in
          let has : Since q l origin taken first (going next after) = record {
            plan = since.plan;
            lateness = since.lateness;
            has = record {
              gave = gave_more origin.left source.left next.left before piece since.has.gave gave;
              no_further = no_further_piece (kept q l) before piece (read_goes q l before first (going source reader) was settled open_) short;
              front = leads_front q l taken first (going next after) on_first;
              all = tt;
              stop = tt;
              fault = λ is. absurd (cc is);
              told = quiet origin.faults source.faults next.faults since.has.told faults;
              never_falls = omega (arith, since.has.never_falls, faults);
            };
            late = tt;
            texts = tt;
            leads = λ is. on_first;
          } in
          subst (λ (events : List Event). Since q l origin taken events (going next after)) (sym (append-nil first)) has;
    }

    -- a piece was read, and there was no memory for it
    pub reads_lost : (cutter : Left) → Reads (going source reader) piece [] (record { source = next; state = Broken; reader = record reader { cutter = cutter } })
    reads_lost cutter = record {
      plan = refl;
      lateness = refl;
      count = omega arith;
      few = omega arith;
      fit = All-nil (λ x. fits (plan_of reader.rows) x ≡ true);
      timely = λ first were. tt;
      were = same_given reader.given reader.greatest;
      next = λ on_time. same_next (plan_of reader.rows) (last_of reader) (last_of reader) refl;
      since = λ q l origin before first since.
          let was = since.leads refl in
          let taken = before ++ piece in
          let same : comes_to first reader piece false ≡ loose q l taken next.ended =
          was.coming open_ piece false ∙ ap (loose q l taken) (sym (ended ∙ was.ended ∙ open_)) in
          let front = subst (λ (r : Loose). IsFront first r.reading.events) same (rows_grow (plan_of reader.rows) reader.lateness (reading_of first reader) (rows_left (with_more reader.cutter piece false))) in
          record {
            plan = since.plan;
            lateness = since.lateness;
            has = record {
              gave = gave_more origin.left source.left next.left before piece since.has.gave gave;
              no_further = no_further_piece (kept q l) before piece (read_goes q l before first (going source reader) was settled open_) short;
              front = subst (λ (events : List Event). IsFront events (kept q l taken next.ended).events) (sym (append-nil first)) front;
              all = tt;
              stop = tt;
              fault = λ is. absurd (cc is);
              told = quiet origin.faults source.faults next.faults since.has.told faults;
              never_falls = omega (arith, since.has.never_falls, faults);
            };
            late = tt;
            texts = tt;
            leads = λ is. absurd (cc is);
          };
    }

  -- the source has ended
  pub reads_end : (cutter : Left) → cutter ≡ record reader.cutter { ended = true } → Gave source.left [] next.left → next.ended ≡ true → next.faults ≡ source.faults
      → Reads (going source reader) [] [] (going next (record reader { cutter = cutter }))
  reads_end cutter over gave ended faults = record {
    plan = refl;
    lateness = refl;
    count = omega arith;
    few = omega arith;
    fit = All-nil (λ x. fits (plan_of reader.rows) x ≡ true);
    timely = λ first were. tt;
    were = same_given reader.given reader.greatest;
    next = λ on_time. same_next (plan_of reader.rows) (last_of reader) (last_of reader) refl;
    since = λ q l origin before first since.
        let was = since.leads refl in
        let taken = before ++ [] in
        let after : Reader = record reader { cutter = cutter } in
        let ended_after : cutter.ended ≡ true = ap (λ (l : Left). l.ended) over in
        let on_first : Leads q l taken first (going next after) = record {
          given = was.given;
          ended = ended ∙ sym ended_after;
          coming = λ going. absurd (let bad : true ≡ false = sym ended_after ∙ going in cc bad);
          ends = λ is. sym (comes_to_end reader first true cutter over) ∙ was.coming open_ [] true;
        } in
        let has : Since q l origin taken first (going next after) = record {
          plan = since.plan;
          lateness = since.lateness;
          has = record {
            gave = gave_more origin.left source.left next.left before [] since.has.gave gave;
            no_further = subst (StopsInPiece (kept q l)) (sym (append-nil before)) since.has.no_further;
            front = leads_front q l taken first (going next after) on_first;
            all = tt;
            stop = tt;
            fault = λ is. absurd (cc is);
            told = quiet origin.faults source.faults next.faults since.has.told faults;
            never_falls = omega (arith, since.has.never_falls, faults);
          };
          late = tt;
          texts = tt;
          leads = λ is. on_first;
        } in
        subst (λ (events : List Event). Since q l origin taken events (going next after)) (sym (append-nil first)) has;
  }

-- an input of which nothing was read
pub unread : (q : Plan) (l : Lateness) (source : SourceState) (reader : Reader) → source.ended ≡ false → IsUnread q l reader → Since q l source [] [] (going source reader)
unread q l source reader opens none =
    let first : RowsAt = going source reader in
    let open_ : reader.cutter.ended ≡ false = ap (λ (c : Left). c.ended) none.cutter in
    let on : Leads q l [] [] first = record {
      given = record { count = sym none.given; latest = sym none.greatest };
      ended = opens ∙ sym open_;
      coming = λ is. unread_leads q l reader none;
      ends = λ is. absurd (let bad : false ≡ true = sym open_ ∙ is in cc bad);
    } in
    record {
      plan = none.plan;
      lateness = none.lateness;
      has = record {
        gave = gave_none source.left;
        no_further = no_further_piece (kept q l) [] [] refl (omega arith);
        front = leads_front q l [] [] first on;
        all = tt;
        stop = tt;
        fault = λ is. absurd (cc is);
        told = λ rose. absurd (omega (arith, rose));
        never_falls = omega arith;
      };
      late = tt;
      texts = tt;
      leads = λ is. on;
    }

-- what is read without a slack is read in the order of time
module _ (q : Plan) (timed : IsTimeOf q.schema.columns q.schema.time) where
  pub on_time_events : (bytes : List ℕ) (ended : Bool) → (kept q punctual bytes ended).events ≡ (read q bytes ended).events
  on_time_events bytes ended = ap (λ (l : Loose). l.reading.events) (loose_same q timed bytes ended)

  pub on_time_texts : (bytes : List ℕ) (ended : Bool) → (kept q punctual bytes ended).so_far.texts ≡ (read q bytes ended).so_far.texts
  on_time_texts bytes ended = ap (λ (l : Loose). l.reading.so_far.texts) (loose_same q timed bytes ended)

  pub on_time_goes : (bytes : List ℕ) → (kept q punctual bytes false).stopped ≡ None → (read q bytes false).stopped ≡ None
  on_time_goes bytes goes = sym (ap (λ (l : Loose). l.reading.stopped) (loose_same q timed bytes false)) ∙ goes

  pub on_time_read : (before after : SourceState) (taken : List ℕ) (events : List Event) (why : Option Stop) → HasReadBy (kept q punctual) before after taken events why → HasRead q before after taken events why
  on_time_read before after taken events why has =
      let same = on_time_events taken after.ended in
      record {
        gave = has.gave;
        no_further = record {
          front = has.no_further.front;
          piece = has.no_further.piece;
          are = has.no_further.are;
          short = has.no_further.short;
          goes_on = on_time_goes has.no_further.front has.no_further.goes_on;
        };
        front = subst (IsFront events) same has.front;
        all = subst (λ (l : List Event). IfSome why (λ stop. events ≡ l)) same has.all;
        stop = subst (λ (s : Stop). IfSome why (λ stop. stop ≡ s)) (ap (λ (l : Loose). stop_of l.reading after.ended) (loose_same q timed taken after.ended)) has.stop;
        fault = has.fault;
        told = has.told;
        never_falls = has.never_falls;
      }

-- a row was found or not, which changes nothing
pub reads_same : (source : SourceState) (reader : Reader) (cutter : Left) → cutter ≡ reader.cutter → Reads (going source reader) [] [] (going source (record reader { cutter = cutter }))
reads_same source reader cutter is = subst (λ (l : Left). Reads (going source reader) [] [] (going source (record reader { cutter = l }))) (sym is) (reads_none (going source reader))

-- what an input gives that goes on
pub reads_going : (state : State) → state ≡ Going → (source : SourceState) (reader : Reader) (bytes : List ℕ) (events : List Event) (new : RowsAt) → Reads (going source reader) bytes events new
    → Reads (record { source = source; state = state; reader = reader }) bytes events new
reads_going state is source reader bytes events new = subst (λ (s : State). Reads (record { source = source; state = s; reader = reader }) bytes events new) (sym is)

-- and that goes on behind it
pub reads_on : (state : State) → state ≡ Going → (source next : SourceState) (old new : Reader) (bytes : List ℕ) (events : List Event) → Reads (going source old) bytes events (going next new)
    → Reads (record { source = source; state = state; reader = old }) bytes events (record { source = next; state = state; reader = new })
reads_on state is source next old new bytes events reads =
    reads_going state is source old bytes events (record { source = next; state = state; reader = new })
    (subst (λ (s : State). Reads (going source old) bytes events (record { source = next; state = s; reader = new })) (sym is) reads)
