-- What an input gives whose events are held back, since its source stood at its start.
use Rattle.std.proofs.Common.{◌≡◌, ℕ, ◌+◌, Bool, true, false, List, [], ◌++◌, length, take, Some, None, Option, refl, sym, ◌∙◌, ap, subst, arith, inl, inr, length-append}
use Rattle.std.specs.Prelude.{IfSome}
use Rattle.sp_io.specs.Outside.{SourceState}
use Rattle.sp_plan.specs.Compiled.{IsTimeOf}
use Rattle.sp_plan.specs.Events.{fits}
use Rattle.sp_plan.specs.declared.event.Event.{Event}
use Rattle.sp_plan.specs.declared.plan.Plan.{Plan}
use Rattle.sp_ports.specs.Giving.{AreGood}
use Rattle.sp_ports.specs.Stopping.{is_end}
use Rattle.sp_ports.specs.declared.stop.Failure.{Failure}
use Rattle.sp_ports.specs.declared.stop.Stop.{Stop}
use Rattle.sp_ports.specs.declared.stop.Stop.TheVariants.{End, Open}
use Rattle.sp_ports.specs.declared.stop.Stop.TheVariants as ends
use Rattle.sp_slack.specs.HeldBack.{sorted, slacked, AreTimely}
use Rattle.sp_slack.specs.Standing.{Stands, all_given}
use Rattle.sp_slack.proofs.Growing.{grows}
use Rattle.sp_intake.specs.declared.reader.State.{State}
use Rattle.sp_intake.specs.declared.reader.State.TheVariants.{Going, Stopped, Broken}
use Rattle.sp_intake.specs.InOrder.{ReadInOrder, ReadsInOrder, AsksInOrder}
use Rattle.sp_intake.specs.Laws.{part_ordered, all_front, gives_more}
use Rattle.sp_intake.specs.Loose.{Lateness, Loose, loose, kept, in_order}
use Rattle.sp_intake.specs.Reading.{Reading, stop_of, stop_or}
use Rattle.sp_intake.specs.Standing.{RowsAt, Held, Standing, Since, IsFront, IsHungry, IsIdle, Passes, Between, EndsAs, GivesBy, HasReadBy, is_stopped, is_whole, stop_in, seen, seen_by, with_held}
use Rattle.sp_intake.proofs.HoldingBack.{given_front, given_all, front_on}
use Rattle.sp_intake.proofs.LooseGood.{kept_timely, slacked_good}
use Rattle.sp_intake.proofs.LooseGrowing.{timely_split}
use Rattle.sp_intake.proofs.Since.{settled_read, read_goes}

-- a reading stops for the same reason, whatever events are given of it
stop_alike : (r : Reading) (events : List Event) (ended : Bool) (stopped : Option Failure) → stop_or (record r { events = events }) ended stopped ≡ stop_or r ended stopped
stop_alike r events ended (Some failure) = refl
stop_alike r events true None = refl
stop_alike r events false None = refl

-- the front of good events is good
front_good : (q : Plan) (xs ys : List Event) → IsFront xs ys → AreGood q ys → AreGood q xs
front_good q xs ys front good =
    let all : AreGood q (xs ++ front.0) = subst (AreGood q) front.1 good in
    record {
      good = (all_front (λ x. fits q x ≡ true) xs front.0 all.good.0, part_ordered [] xs front.0 all.good.1);
      few = omega (arith, all.few, length-append xs front.0);
    }

-- a state that is seen to have stopped has stopped so
seen_so : (drained : Bool) (state : State) (stop : Stop) → stop_in (seen_by drained state) ≡ Some stop → stop_in state ≡ Some stop
seen_so true state stop is = is
seen_so false Going stop is = absurd (cc is)
seen_so false (Stopped End) stop is = absurd (cc is)
seen_so false (Stopped (ends.Failed failure)) stop is = is
seen_so false (Stopped ends.Open) stop is = is
seen_so false Broken stop is = absurd (cc is)

-- and one that stopped open is seen so
open_so : (drained : Bool) (state : State) → stop_in state ≡ Some Open → stop_in (seen_by drained state) ≡ Some Open
open_so true state is = is
open_so false Going is = absurd (cc is)
open_so false (Stopped End) is = absurd (cc is)
open_so false (Stopped (ends.Failed failure)) is = absurd (cc is)
open_so false (Stopped ends.Open) is = refl
open_so false Broken is = absurd (cc is)

stopped_so : (state : State) (stop : Stop) → stop_in state ≡ Some stop → is_stopped state ≡ true
stopped_so Going stop is = absurd (cc is)
stopped_so (Stopped why) stop is = refl
stopped_so Broken stop is = absurd (cc is)

whole_so : (why : Option Stop) → is_whole why ≡ true → why ≡ Some End
whole_so None is = absurd (cc is)
whole_so (Some End) is = refl
whole_so (Some (ends.Failed failure)) is = absurd (cc is)
whole_so (Some ends.Open) is = absurd (cc is)

-- what holds where there is a value, holds of this one
if_so : {X : Type 0} (P : X → Type 0) (o : Option X) (x : X) → o ≡ Some x → IfSome o P → P x
if_so P (Some y) x is holds = subst P (cc is) holds
if_so P None x is holds = absurd (cc is)

some_if : {X : Type 0} (P : X → Type 0) (o : Option X) → ((x : X) → o ≡ Some x → P x) → IfSome o P
some_if P None all = tt
some_if P (Some x) all = all x refl

module _ (q : Plan) (l : Lateness) (timed : IsTimeOf q.schema.columns q.schema.time) (origin : SourceState) (taken : List ℕ) (more events : List Event) (rows : RowsAt) (held : Held) (since : Since q l origin taken more rows)
    (slack : held.kept.slack ≡ l.slack) (stands : Stands held.kept more (length events)) (are : take (length events) (sorted more) ≡ events) (ended : held.kept.ended ≡ is_whole (stop_in rows.state)) where
  abbrev w : Loose
  w = loose q l taken rows.source.ended

  abbrev over : Bool
  over = is_end (stop_of w.reading rows.source.ended)

  abbrev all : List Event
  all = slacked l.slack w.reading.events over

  -- where the rows stopped, they gave all, and for this reason
  stopped_rows : (stop : Stop) → stop_in rows.state ≡ Some stop → (more ≡ w.reading.events) × (is_end stop ≡ over)
  stopped_rows stop is = (
    if_so (λ s. more ≡ w.reading.events) (stop_in rows.state) stop is since.has.all,
    ap is_end (if_so (λ s. s ≡ stop_of w.reading rows.source.ended) (stop_in rows.state) stop is since.has.stop),
  )

  front : IsFront events all
  front = by held.kept.ended refl
    where
      own : IsFront events (all_given held.kept more)
      own = subst (λ (l : List Event). IsFront l (all_given held.kept more)) are (given_front held.kept more (length events) stands)

      by : (b : Bool) → held.kept.ended ≡ b → IsFront events all
      by true is =
          let whole = stopped_rows End (whole_so (stop_in rows.state) (sym ended ∙ is)) in
          subst (IsFront events) ((λ i. slacked (slack i) (whole.0 i) (is i)) ∙ ap (slacked l.slack w.reading.events) whole.1) own
      by false is =
          let others = since.has.front in
          let timely = timely_split l.slack [] more others.0 (subst (AreTimely l.slack []) others.1 (kept_timely q l timed taken rows.source.ended)) in
          let first : IsFront events (slacked l.slack more false) = subst (IsFront events) (λ i. slacked (slack i) more (is i)) own in
          let behind : IsFront (slacked l.slack more false) all = subst (λ (xs : List Event). IsFront (slacked l.slack more false) (slacked l.slack xs over)) (sym others.1) (grows l.slack more others.0 over timely) in
          front_on events (slacked l.slack more false) all first behind

  -- where the input stopped, it gave all
  given_whole : (stop : Stop) → stop_in rows.state ≡ Some stop → IsIdle (Some held) → events ≡ all
  given_whole stop is idle =
      let rest = stopped_rows stop is in
      let end : held.kept.ended ≡ over = ended ∙ ap is_whole is ∙ rest.1 in
      sym are ∙ given_all held.kept more (length events) stands (idle more (length events) stands) ∙ (λ i. slacked (slack i) (rest.0 i) (end i))

  module _ (idle : is_stopped (seen_by held.drained rows.state) ≡ true → IsIdle (Some held)) where
    has_in_order : HasReadBy (in_order q l) origin rows.source taken events (stop_in (seen_by held.drained rows.state))
    has_in_order = record {
      gave = since.has.gave;
      no_further = record {
        front = since.has.no_further.front;
        piece = since.has.no_further.piece;
        are = since.has.no_further.are;
        short = since.has.no_further.short;
        goes_on = since.has.no_further.goes_on;
      };
      front = front;
      all = some_if (λ stop. events ≡ all) (stop_in (seen_by held.drained rows.state)) (λ stop is. given_whole stop (seen_so held.drained rows.state stop is) (idle (stopped_so (seen_by held.drained rows.state) stop is)));
      stop = some_if (λ stop. stop ≡ stop_of (in_order q l taken rows.source.ended) rows.source.ended) (stop_in (seen_by held.drained rows.state)) (λ stop is.
          if_so (λ s. s ≡ stop_of w.reading rows.source.ended) (stop_in rows.state) stop (seen_so held.drained rows.state stop is) since.has.stop ∙ sym (stop_alike w.reading all rows.source.ended w.reading.stopped));
      fault = λ is. since.has.fault (seen_so held.drained rows.state Open is);
      told = λ rose. open_so held.drained rows.state (since.has.told rose);
      never_falls = since.has.never_falls;
    }

    good_in_order : AreGood q events
    good_in_order = front_good q events all front (slacked_good q l timed taken rows.source.ended over)

    late_in_order : IfSome (stop_in (seen_by held.drained rows.state)) (λ stop. rows.reader.late ≡ w.late)
    late_in_order = some_if (λ stop. rows.reader.late ≡ w.late) (stop_in (seen_by held.drained rows.state)) (λ stop is. if_so (λ s. rows.reader.late ≡ w.late) (stop_in rows.state) stop (seen_so held.drained rows.state stop is) since.late)

-- what is given is read of the source in the order of time
module _ (q : Plan) (l : Lateness) (timed : IsTimeOf q.schema.columns q.schema.time) (first : RowsAt) (held : Held) (since : Since q l first.source [] [] first) (unused : Stands held.kept [] 0) (slack : held.kept.slack ≡ l.slack) where
  by_held : (events : List Event) (bytes : List ℕ) (last : Standing) (other : Option Held) → last.held ≡ other → GivesBy (with_held first (Some held)) bytes events last → ReadInOrder q l first.source bytes events last
  by_held events bytes last None is gives = absurd (subst (λ (h : Option Held). Between (Some held) h gives.more events) is gives.between)
  by_held events bytes last (Some now) is gives =
      let passes : Passes held.kept now.kept gives.more events = subst (λ (h : Option Held). Between (Some held) h gives.more events) is gives.between in
      let on = passes.on [] 0 unused in
      let many : 0 + length events ≡ length events = omega arith in
      let own : Since q l first.source bytes gives.more last.rows = gives.reads.since q l first.source [] [] since in
      let stands : Stands now.kept gives.more (length events) = subst (Stands now.kept gives.more) many on.stands in
      let are : take (length events) (sorted gives.more) ≡ events = ap (λ (n : ℕ). take n (sorted gives.more)) (sym many) ∙ on.are in
      let ended : now.kept.ended ≡ is_whole (stop_in last.rows.state) = subst (λ (h : Option Held). EndsAs h last.rows.state) is gives.sound.ended in
      let state : last.state ≡ seen_by now.drained last.rows.state = gives.sound.state ∙ ap (λ (h : Option Held). seen h last.rows.state) is in
      let idle : is_stopped (seen_by now.drained last.rows.state) ≡ true → IsIdle (Some now) = λ over. subst IsIdle is (gives.sound.idle (ap is_stopped state ∙ over)) in
      let from = passes.slack ∙ slack in
      record {
        has = subst (λ (s : SourceState). HasReadBy (in_order q l) first.source s bytes events (stop_in last.state)) (sym gives.sound.source)
            (subst (λ (s : State). HasReadBy (in_order q l) first.source last.rows.source bytes events (stop_in s)) (sym state) (has_in_order q l timed first.source bytes gives.more events last.rows now own from stands are ended idle));
        late = subst (λ (s : SourceState). IfSome (stop_in last.state) (λ stop. last.rows.reader.late ≡ (loose q l bytes s.ended).late)) (sym gives.sound.source)
            (subst (λ (s : State). IfSome (stop_in s) (λ stop. last.rows.reader.late ≡ (loose q l bytes last.rows.source.ended).late)) (sym state) (late_in_order q l timed first.source bytes gives.more events last.rows now own from stands are ended idle));
        good = good_in_order q l timed first.source bytes gives.more events last.rows now own from stands are ended idle;
      }

  pub reads_in_order : ReadsInOrder q l first.source (with_held first (Some held))
  reads_in_order events last gives = (gives.0, by_held events gives.0 last last.held refl gives.1)

  -- what was given when the source was last asked is just what is to be given of the bytes before the last piece
  asked_all : (behind : RowsAt) (given more : List Event) (front : List ℕ) (now : Held) → behind.state ≡ Going → IsHungry behind.reader → IsIdle (Some now) → now.kept.ended ≡ is_whole (stop_in behind.state) → now.kept.slack ≡ l.slack
      → Since q l first.source front more behind → Stands now.kept more (length given) → take (length given) (sorted more) ≡ given → given ≡ (in_order q l front false).events
  asked_all behind given more front now going hungry idle ended own since' stands are =
      let leads = since'.leads going in
      let read = settled_read q l front more behind leads hungry.settled ∙ ap (loose q l front) (leads.ended ∙ hungry.open_) in
      let events : more ≡ (kept q l front false).events = ap (λ (r : Loose). r.reading.events) read in
      let goes = read_goes q l front more behind leads hungry.settled hungry.open_ in
      let open_ : is_end (stop_of (kept q l front false) false) ≡ false = ap (λ (o : Option Failure). is_end (stop_or (kept q l front false) false o)) goes in
      let not : now.kept.ended ≡ false = ended ∙ ap (λ (s : State). is_whole (stop_in s)) going in
      sym are ∙ given_all now.kept more (length given) stands (idle more (length given) stands) ∙ (λ i. slacked (own i) (events i) (not i)) ∙ ap (slacked l.slack (kept q l front false).events) (sym open_)

  asked_held : (front : List ℕ) (given : List Event) (between : Standing) (other : Option Held) → between.held ≡ other → GivesBy (with_held first (Some held)) front given between → between.rows.state ≡ Going → IsHungry between.rows.reader → IsIdle between.held
      → given ≡ (in_order q l front false).events
  asked_held front given between None is gives going hungry idle = absurd (subst (λ (h : Option Held). Between (Some held) h gives.more given) is gives.between)
  asked_held front given between (Some now) is gives going hungry idle =
      let passes : Passes held.kept now.kept gives.more given = subst (λ (h : Option Held). Between (Some held) h gives.more given) is gives.between in
      let on = passes.on [] 0 unused in
      let many : 0 + length given ≡ length given = omega arith in
      let ended : now.kept.ended ≡ is_whole (stop_in between.rows.state) = subst (λ (h : Option Held). EndsAs h between.rows.state) is gives.sound.ended in
      asked_all between.rows given gives.more front now going hungry (subst IsIdle is idle) ended (passes.slack ∙ slack) (gives.reads.since q l first.source [] [] since) (subst (Stands now.kept gives.more) many on.stands)
      (ap (λ (n : ℕ). take n (sorted gives.more)) (sym many) ∙ on.are)

  pub asks_in_order : AsksInOrder q l first.source (with_held first (Some held))
  asks_in_order given events last (inl none) = (
    [],
    record {
      read = by_held events [] last last.held refl none.1;
      last = record {
        front = [];
        piece = [];
        are = refl;
        short = omega arith;
        goes_on = refl;
      };
      are = none.0;
    },
  )
  asks_in_order given events last (inr behind) =
      let start = with_held first (Some held) in
      let taken = behind.front ++ behind.piece in
      let all : GivesBy start taken events last = subst (λ (xs : List Event). GivesBy start taken xs last) (sym behind.are) (gives_more start behind.between last behind.front behind.piece given behind.others behind.few behind.first behind.last) in
      let mid = behind.between.rows in
      let one : Since q l first.source behind.front behind.first.more mid = behind.first.reads.since q l first.source [] [] since in (
        taken,
        record {
          read = by_held events taken last last.held refl all;
          last = record {
            front = behind.front;
            piece = behind.piece;
            are = refl;
            short = behind.short;
            goes_on = read_goes q l behind.front behind.first.more mid (one.leads behind.going) behind.hungry.settled behind.hungry.open_;
          };
          are = asked_held behind.front given behind.between behind.between.held refl behind.first behind.going behind.hungry behind.idle;
        },
      )
