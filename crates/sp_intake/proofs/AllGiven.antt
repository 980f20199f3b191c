-- All that an input gives, in a list.
use Rattle.std.proofs.Common.{◌≡◌, ◌≤◌, ◌+◌, ℕ, List, [], length, map, Ok, Err, Vec, Global, refl, sym, ◌∙◌, ap, subst}
use Rattle.std.specs.Prelude.{Option, Some, Result, IsErr, IfOk, IfSome, String, string_bytes}
use Rattle.std.specs.declared.alloc.AllocError.{AllocError}
use Rattle.sp_base.specs.Limits.{event_limit}
use Rattle.sp_plan.specs.Compiled.{IsTimeOf}
use Rattle.sp_plan.specs.Events.{AllFit, NeverGoesBack}
use Rattle.sp_plan.specs.declared.event.Event.{Event}
use Rattle.sp_plan.specs.declared.plan.Plan.{Plan}
use Rattle.sp_intake.specs.declared.input.InputEvents.{InputEvents}
use Rattle.sp_ports.specs.declared.stop.Stop.{Stop}
use Rattle.sp_intake.specs.declared.input.LooseEvents.{LooseEvents}
use Rattle.sp_intake.specs.declared.input.NamedEvents.{NamedEvents}
use Rattle.sp_intake.specs.Intake.{ReadsInput, ReadsNamed, ReadsLoose}
use Rattle.sp_intake.specs.Loose.{Lateness, kept, loose}
use Rattle.sp_intake.specs.ReadAll.{ReadsAll}
use Rattle.sp_intake.specs.Standing.{RowsAt, RowsGive, HasRead, HasReadBy, Since, stop_in}
use Rattle.sp_rows.specs.Progress.{plan_of}
use Rattle.sp_intake.specs.Following.{ComeNext}
use Rattle.sp_intake.specs.LooseLaws.{punctual}
use Rattle.sp_intake.specs.Reader.{last_of, texts_of}
use Rattle.sp_intake.specs.Reading.{read}
use Rattle.sp_intake.proofs.Since.{on_time_read, on_time_texts}
use Rattle.sp_intake.proofs.LooseGood.{kept_fit, kept_few}

-- memory ran out behind these events
pub short_all : (old new : RowsAt) (events : List Event) (result : Result InputEvents AllocError) → IsErr result → RowsGive old events new → ReadsAll old new result
short_all old new events (Ok given) failed gives = absurd (cc failed)
short_all old new events (Err e) failed gives = record { events = events; gives = gives; given = tt; stop = tt }

-- a reading of the input that took these bytes
abbrev pub ReadsBytes : Plan → RowsAt → RowsAt → Result InputEvents AllocError → List ℕ → Type 0
ReadsBytes q old new result taken = (reads : ReadsInput q old.source new.source result) × (reads.taken ≡ taken)

module _ (q : Plan) (timed : IsTimeOf q.schema.columns q.schema.time) (old new : RowsAt) (since : Since q punctual old.source [] [] old) where
  -- what was read to a stop is a reading of the input
  reads_bytes : (result : Result InputEvents AllocError) (all : ReadsAll old new result) → ReadsBytes q old new result all.gives.0
  reads_bytes result all = by result all.given all.stop
    where
      taken : List ℕ
      taken = all.gives.0

      behind : Since q punctual old.source taken all.events new
      behind = all.gives.1.since q punctual old.source [] [] since

      far : HasRead q old.source new.source taken all.events (stop_in new.state)
      far = on_time_read q timed old.source new.source taken all.events (stop_in new.state) behind.has

      next : ComeNext (plan_of old.reader.rows) (last_of old.reader) all.events (last_of new.reader)
      next = all.gives.1.next since.lateness

      fit : AllFit q all.events
      fit = subst (λ (p : Plan). AllFit p all.events) since.plan next.fit

      by : (answer : Result InputEvents AllocError) → IfOk answer (λ given. given.events.items ≡ all.events) → IfOk answer (λ given. stop_in new.state ≡ Some given.stop) → ReadsBytes q old new answer taken
      by (Ok given) events stop =
          let has = subst (λ (why : Option Stop). HasRead q old.source new.source taken all.events why) stop far in (
            record {
              taken = taken;
              gave = has.gave;
              no_further = has.no_further;
              events = events ∙ has.all;
              stop = has.stop;
              few = subst (λ (l : List Event). length l ≤ event_limit) (sym events) all.gives.1.few;
              fit = subst (AllFit q) (sym events) fit;
              ordered = subst NeverGoesBack (sym events) next.ordered;
              fault = λ open_. has.fault (ap (λ (s : Stop). Some s) open_);
              told = λ rose. cc (has.told rose);
            },
            refl,
          )
      by (Err e) events stop = (
        record {
          taken = taken;
          gave = far.gave;
          no_further = far.no_further;
          events = tt;
          stop = tt;
          few = tt;
          fit = tt;
          ordered = tt;
          fault = tt;
          told = tt;
        },
        refl,
      )

  pub reads_input : (result : Result InputEvents AllocError) → ReadsAll old new result → ReadsInput q old.source new.source result
  reads_input result all = (reads_bytes result all).0

  -- memory ran out, before its texts were told
  pub named_short : (result : Result InputEvents AllocError) → ReadsAll old new result → (answer : Result NamedEvents AllocError) → IsErr answer → ReadsNamed q old.source new.source answer
  named_short result all (Ok named) failed = absurd (cc failed)
  named_short result all (Err e) failed = record { reads = reads_input (Err e) (short_all old new all.events (Err e) refl all.gives); texts = tt }

  -- the texts that are known then are those of the reading
  pub reads_named : (given : InputEvents) → ReadsAll old new (Ok given) → (texts : Vec (String Global) Global) → map string_bytes texts.items ≡ texts_of new.reader
      → ReadsNamed q old.source new.source (Ok (record { events = given.events; stop = given.stop; texts = texts }))
  reads_named given all texts are =
      let reads = reads_bytes (Ok given) all in
      let behind = all.gives.1.since q punctual old.source [] [] since in
      let ended = new.source.ended in
      let known : texts_of new.reader ≡ (kept q punctual all.gives.0 ended).so_far.texts =
      subst (λ (why : Option Stop). IfSome why (λ stop. texts_of new.reader ≡ (kept q punctual all.gives.0 ended).so_far.texts)) all.stop behind.texts in
      record {
        reads = reads.0;
        texts = are ∙ known ∙ on_time_texts q timed all.gives.0 ended ∙ ap (λ (bytes : List ℕ). (read q bytes ended).so_far.texts) (sym reads.1);
      }

-- ---- where events may come out of order

module _ (q : Plan) (l : Lateness) (timed : IsTimeOf q.schema.columns q.schema.time) (old new : RowsAt) (since : Since q l old.source [] [] old) where
  module _ (result : Result InputEvents AllocError) (all : ReadsAll old new result) where
    behind : Since q l old.source all.gives.0 all.events new
    behind = all.gives.1.since q l old.source [] [] since

    -- memory ran out
    pub loose_short : (answer : Result LooseEvents AllocError) → IsErr answer → ReadsLoose q l old.source new.source answer
    loose_short (Ok given) failed = absurd (cc failed)
    loose_short (Err e) failed = record {
      taken = all.gives.0;
      gave = behind.has.gave;
      no_further = behind.has.no_further;
      events = tt;
      late = tt;
      stop = tt;
      few = tt;
      fit = tt;
      fault = tt;
      told = tt;
    }

  -- what was read to a stop is a reading of the input
  pub loose_read : (given : InputEvents) (answer : LooseEvents) → ReadsAll old new (Ok given) → answer.events.items ≡ given.events.items → answer.late ≡ new.reader.late → answer.stop ≡ given.stop
      → ReadsLoose q l old.source new.source (Ok answer)
  loose_read given answer all events late stop =
      let taken = all.gives.0 in
      let last = all.gives.1.since q l old.source [] [] since in
      let r = loose q l taken new.source.ended in
      let stopped = all.stop ∙ ap (λ (s : Stop). Some s) (sym stop) in
      let has = subst (λ (why : Option Stop). HasReadBy (kept q l) old.source new.source taken all.events why) stopped last.has in
      let same : answer.events.items ≡ r.reading.events = events ∙ all.given ∙ has.all in
      let passed : answer.late ≡ r.late = late ∙ subst (λ (why : Option Stop). IfSome why (λ s. new.reader.late ≡ r.late)) stopped last.late in
      let few = kept_few q l timed taken new.source.ended in
      record {
        taken = taken;
        gave = has.gave;
        no_further = has.no_further;
        events = same;
        late = passed;
        stop = has.stop;
        few = subst (λ (n : ℕ). length answer.events.items + n ≤ event_limit) (sym passed) (subst (λ (events : List Event). length events + r.late ≤ event_limit) (sym same) few);
        fit = subst (AllFit q) (sym same) (kept_fit q l timed taken new.source.ended);
        fault = λ open_. has.fault (ap (λ (s : Stop). Some s) open_);
        told = λ rose. cc (has.told rose);
      }
