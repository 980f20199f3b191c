-- Events that are offered, held back and given.
use mathlib.Core.Logic.{∥∥₁_elim, ∥∥₁_map}
use Rattle.std.proofs.Common.{◌≡◌, ℕ, zero, suc, ℤ, ◌+◌, ◌-◌, Bool, true, false, List, [], ◌∷◌, ◌++◌, length, take, drop, Some, None, Option, refl, sym, ◌∙◌, ap, subst, arith, append_assoc}
use Rattle.std.specs.Prelude.{slice_get, if◌then◌else◌}
use Rattle.std.specs.List.{All, filter}
use Rattle.std.proofs.lemmas.List.{append-nil, length-take, take-append-drop}
use Rattle.std.proofs.lemmas.List.Elements.{All-append, All-nil, All-head, All-tail, filter-append}
use Rattle.std.proofs.Math.Seq.{take-append_seam}
use Rattle.sp_plan.specs.declared.event.Event.{Event}
use Rattle.sp_slack.specs.HeldBack.{sorted, slacked, least, is_up_to, is_late}
use Rattle.sp_slack.specs.Standing.{Kept, Stands, all_given}
use Rattle.sp_slack.proofs.Sorting.{length_sorted}
use Rattle.sp_slack.proofs.Growing.{grows_one, ends_whole}
use Rattle.std.proofs.lemmas.Option.{slice_get_within}
use Rattle.sp_intake.specs.declared.reader.State.{State}
use Rattle.sp_intake.specs.declared.reader.State.TheVariants.{Going, Stopped, Broken}
use Rattle.sp_intake.specs.Laws.{at_first, reads_none, passes_none, sound_at}
use Rattle.std.specs.Prelude.{Result, Ok, Err, OnOk, OnErr, IsErr, is_err}
use Rattle.std.specs.declared.alloc.AllocError.{AllocError}
use Rattle.sp_io.specs.Outside.{SourceState}
use Rattle.sp_plan.specs.Events.{fits, AllFit}
use Rattle.sp_plan.specs.declared.plan.Plan.{Plan}
use Rattle.sp_ports.specs.Stopping.{is_end}
use Rattle.sp_ports.specs.declared.stop.Stop.{Stop}
use Rattle.sp_ports.specs.declared.stop.Stop.TheVariants.{End}
use Rattle.sp_ports.specs.declared.stop.Stop.TheVariants as ends
use Rattle.sp_rows.specs.Progress.{plan_of}
use Rattle.sp_slack.specs.declared.late.Offered.{Offered}
use Rattle.sp_slack.specs.declared.late.Offered.TheVariants as offered
use Rattle.sp_intake.specs.Loose.{Lateness}
use Rattle.sp_intake.specs.LooseLaws.{punctual}
use Rattle.sp_intake.specs.declared.reader.Step.{Step}
use Rattle.sp_intake.specs.Reader.{Reader, WereGiven, event_in}
use Rattle.sp_intake.specs.Standing.{RowsAt, Held, Reads, Passes, IsFront, IsIdle, GivesBy, Holds, Stood, given_in, is_stopped, is_whole, stop_in, seen, seen_by, with_held}
use Rattle.sp_intake.proofs.Since.{reads_broken}

-- nothing is shown twice of what cannot be
never : IsProp ⊥
never x y = absurd x

-- ---- lists

pub front_on : (xs ys zs : List Event) → IsFront xs ys → IsFront ys zs → IsFront xs zs
front_on xs ys zs one two = (one.0 ++ two.0, two.1 ∙ ap (λ (l : List Event). l ++ two.0) one.1 ∙ append_assoc xs one.0 two.0)

-- one more of the first
take_next : (n : ℕ) (xs : List Event) (x : Event) → slice_get xs n ≡ Some x → take (n + 1) xs ≡ take n xs ++ x ∷ []
take_next n [] x is = absurd (cc is)
take_next zero (w ∷ xs) x is = ap (λ (y : Event). y ∷ []) (cc is)
take_next (suc n) (w ∷ xs) x is =
    let same : suc n + 1 ≡ suc (n + 1) = omega arith in
    ap (λ (m : ℕ). take m (w ∷ xs)) same ∙ ap (λ (l : List Event). w ∷ l) (take_next n xs x is)

-- as many of the first as a front has are the front
take_front : (n : ℕ) (xs ys : List Event) → IsFront xs ys → length xs ≡ n → take n ys ≡ xs
take_front n xs ys front size = ap (λ (m : ℕ). take m ys) (sym size) ∙ ap (take (length xs)) front.1 ∙ take-append_seam xs front.0

filter_all : (is : Event → Bool) (xs : List Event) → All (λ x. is x ≡ true) xs → filter is xs ≡ xs
filter_all is [] all = refl
filter_all is (x ∷ xs) all = by (is x) (All-head (λ y. is y ≡ true) x xs all) (filter_all is xs (All-tail (λ y. is y ≡ true) x xs all))
  where
    by : (b : Bool) → b ≡ true → filter is xs ≡ xs → (if b then x ∷ filter is xs else filter is xs) ≡ x ∷ xs
    by true at rest = ap (λ (l : List Event). x ∷ l) rest
    by false at rest = absurd (cc at)

-- ---- what was given comes first

-- what is to be given comes first of the sorted events
given_sorted : (slack : ℤ) (events : List Event) (ended : Bool) → IsFront (slacked slack events ended) (sorted events)
given_sorted slack events true = ([], sym (append-nil (sorted events)))
given_sorted slack events false = ends_whole slack events true

module _ (k : Kept) (events : List Event) (given : ℕ) (stands : Stands k events given) where
  pub size : length (take given (sorted events)) ≡ given
  size = omega (arith, length-take given (sorted events), length_sorted events, stands.some)

  pub given_front : IsFront (take given (sorted events)) (all_given k events)
  given_front = by k.ended refl
    where
      by : (b : Bool) → k.ended ≡ b → IsFront (take given (sorted events)) (slacked k.slack events b)
      by true is = (drop given (sorted events), sym (take-append-drop given (sorted events)))
      by false is =
          let up = is_up_to (least k.slack events) in
          let front = take given (sorted events) in
          let rest = drop given (sorted events) in
          (filter up rest, ap (filter up) (sym (take-append-drop given (sorted events))) ∙ filter-append up front rest ∙ ap (λ (l : List Event). l ++ filter up rest) (filter_all up front (stands.passed is)))

  -- where all was given, what was given is all
  pub given_all : length (all_given k events) ≡ given → take given (sorted events) ≡ all_given k events
  given_all whole = take_front given (all_given k events) (sorted events) (given_sorted k.slack events k.ended) whole

-- ---- steps

-- the next one of those that are to be given
abbrev pub GivesNext : Kept → Kept → Event → Type 0
GivesNext k m e = (events : List Event) (given : ℕ) → Stands k events given → (slice_get (all_given k events) given ≡ Some e) × Stands m events (given + 1)

-- it is given
pub passes_next : (k m : Kept) (e : Event) → m.slack ≡ k.slack → GivesNext k m e → Passes k m [] (e ∷ [])
passes_next k m e slack step = record {
  slack = slack;
  on = λ events given stands.
      let next = step events given stands in
      let same = append-nil events in
      let front = given_sorted k.slack events k.ended in
      let at : slice_get (sorted events) given ≡ Some e = ap (λ (l : List Event). slice_get l given) front.1 ∙ at_first (all_given k events) front.0 given e next.0 in
      record {
        stands = subst (λ (l : List Event). Stands m l (given + 1)) (sym same) next.1;
        are = ap (λ (l : List Event). take (given + 1) (sorted l)) same ∙ take_next given (sorted events) e at;
      };
}

-- one is offered
pub passes_offer : (k m : Kept) (e : Event) → m.slack ≡ k.slack → k.ended ≡ false → ((events : List Event) (given : ℕ) → Stands k events given → (is_late k.slack events e ≡ false) × Stands m (events ++ e ∷ []) given) → Passes k m (e ∷ []) []
passes_offer k m e slack going step = passes_none k m (e ∷ []) slack (λ events given stands.
    let next = step events given stands in
    let more = events ++ e ∷ [] in
    let own = take given (sorted events) in
    let first : IsFront own (slacked k.slack events false) = subst (λ (b : Bool). IsFront own (slacked k.slack events b)) going (given_front k events given stands) in
    let second : IsFront own (slacked k.slack more false) = front_on own (slacked k.slack events false) (slacked k.slack more false) first (grows_one k.slack events e next.0) in
    let front : IsFront own (sorted more) = front_on own (slacked k.slack more false) (sorted more) second (ends_whole k.slack more true) in
    (next.1, take_front given own (sorted more) front (size k events given stands)))

-- no more come
pub passes_end : (k m : Kept) → m.slack ≡ k.slack → ((events : List Event) (given : ℕ) → Stands k events given → Stands m events given) → Passes k m [] []
passes_end k m slack step = passes_none k m [] slack (λ events given stands.
    let same = append-nil events in
    (subst (λ (l : List Event). Stands m l given) (sym same) (step events given stands), ap (λ (l : List Event). take given (sorted l)) same))

-- ---- what a reader knows of what it holds back

-- where one more is given, the input has not stopped
pub not_idle : (reader : Reader) (state : State) (held : Held) (e : Event) → Holds reader state held → (more : Kept) → GivesNext held.kept more e → is_stopped (seen_by held.drained state) ≡ false
not_idle reader state held e holds more next = by (is_stopped (seen_by held.drained state)) refl
  where
    by : (b : Bool) → is_stopped (seen_by held.drained state) ≡ b → is_stopped (seen_by held.drained state) ≡ false
    by false is = is
    by true is =
        absurd (∥∥₁_elim holds.stood never (λ (stood : Stood reader held).
        let whole = holds.idle is stood.events stood.given stood.stands in
        let within = slice_get_within (all_given held.kept stood.events) stood.given e (next stood.events stood.given stood.stands).0 in
        omega (arith, whole, within)))

-- an input that has not stopped has nothing to be idle for
pub busy : {P : Type 0} (state : State) → is_stopped state ≡ false → is_stopped state ≡ true → P
busy state is over = absurd (cc (is, over))

-- the next one is given
pub holds_next : (reader : Reader) (state : State) (old new : Held) (e : Event) → Holds reader state old → new.drained ≡ old.drained → new.kept ≡ record old.kept { held = new.kept.held } → is_stopped (seen_by old.drained state) ≡ false
    → GivesNext old.kept new.kept e → Holds reader state new
holds_next reader state old new e holds drained rest going step = record {
  stood = ∥∥₁_map holds.stood (λ (stood : Stood reader old). record {
    events = stood.events;
    given = stood.given + 1;
    stands = (step stood.events stood.given stood.stands).1;
    were = stood.were;
    fit = stood.fit;
  });
  offered = ap (λ (k : Kept). k.offered) rest ∙ holds.offered;
  slack = ap (λ (k : Kept). k.slack) rest ∙ holds.slack;
  ended = ap (λ (k : Kept). k.ended) rest ∙ holds.ended;
  untold = λ goes. drained ∙ holds.untold goes;
  idle = λ over. busy (seen_by old.drained state) going (subst (λ (b : Bool). is_stopped (seen_by b state) ≡ true) drained over);
}

-- an input gave one of those that were held back
pub gives_next : (rows : RowsAt) (old new : Held) (e : Event) → Holds rows.reader rows.state new → new.kept ≡ record old.kept { held = new.kept.held }
    → GivesNext old.kept new.kept e
    → GivesBy (with_held rows (Some old)) [] (e ∷ []) (with_held rows (Some new))
gives_next rows old new e holds rest step = record {
  more = [];
  reads = reads_none rows;
  between = passes_next old.kept new.kept e (ap (λ (k : Kept). k.slack) rest) step;
  sound = sound_at rows (Some new) holds;
}

-- an input gave nothing of what its rows gave
pub gives_quiet : (old new : RowsAt) (before now : Held) (more : List Event) → Reads old [] more new → Passes before.kept now.kept more [] → Holds new.reader new.state now → GivesBy (with_held old (Some before)) [] [] (with_held new (Some now))
gives_quiet old new before now more reads passes holds = record { more = more; reads = reads; between = passes; sound = sound_at new (Some now) holds }

-- rows gave no event
pub holds_rows : (old new : RowsAt) (before now : Held) → Reads old [] [] new → Holds old.reader old.state before → ((events : List Event) (given : ℕ) → Stands before.kept events given → Stands now.kept events given)
    → now.kept.offered ≡ before.kept.offered → now.kept.slack ≡ before.kept.slack → now.kept.ended ≡ is_whole (stop_in new.state) → (new.state ≡ Going → now.drained ≡ false) → (is_stopped (seen_by now.drained new.state) ≡ true → IsIdle (Some now))
    → Holds new.reader new.state now
holds_rows old new before now reads holds stands offered slack ended untold idle = record {
  stood = ∥∥₁_map holds.stood (λ (stood : Stood old.reader before). record {
    events = stood.events;
    given = stood.given;
    stands = stands stood.events stood.given stood.stands;
    were = subst (λ (events : List Event). WereGiven events new.reader) (append-nil stood.events) (reads.were stood.events stood.were);
    fit = subst (λ (q : Plan). AllFit q stood.events) (sym reads.plan) stood.fit;
  });
  offered = omega (arith, offered, holds.offered, reads.count);
  slack = slack ∙ holds.slack ∙ ap (λ (l : Lateness). l.slack) (sym reads.lateness);
  ended = ended;
  untold = untold;
  idle = idle;
}

-- the same of what keeps as much
pub holds_still : (old new : RowsAt) (before now : Held) → Reads old [] [] new → Holds old.reader old.state before → now.kept ≡ before.kept → before.kept.ended ≡ is_whole (stop_in new.state) → (new.state ≡ Going → now.drained ≡ false) → IsIdle (Some before)
    → Holds new.reader new.state now
holds_still old new before now reads holds same ended untold idle =
    holds_rows old new before now reads holds (λ events given stands. subst (λ (k : Kept). Stands k events given) (sym same) stands) (ap (λ (k : Kept). k.offered) same) (ap (λ (k : Kept). k.slack) same) (ap (λ (k : Kept). k.ended) same ∙ ended)
    untold (λ over events given stands. ap (λ (k : Kept). length (all_given k events)) same ∙ idle events given (subst (λ (k : Kept). Stands k events given) same stands))

pub passes_still : (k m : Kept) → m ≡ k → Passes k m [] []
passes_still k m same = passes_end k m (ap (λ (k : Kept). k.slack) same) (λ events given stands. subst (λ (k : Kept). Stands k events given) (sym same) stands)

-- it is not late
timely_now : (old new : RowsAt) (before : Held) (e : Event) → Reads old [] (e ∷ []) new → before.kept.slack ≡ old.reader.lateness.slack → (stood : Stood old.reader before) → is_late before.kept.slack stood.events e ≡ false
timely_now old new before e reads slack stood = ap (λ (s : ℤ). is_late s stood.events e) slack ∙ (reads.timely stood.events stood.were).0

-- what is answered where an event was offered, and memory did not run out
pub record WasOffered (before now : Kept) (e : Event) (result : Result Offered AllocError) : Type 0 where
  pub kept : (events : List Event) (given : ℕ) → Stands before events given → result ≡ Ok offered.Kept → (is_late before.slack events e ≡ false) × Stands now (events ++ e ∷ []) given
  pub late : (events : List Event) (given : ℕ) → Stands before events given → (time end : ℤ) → result ≡ Ok (offered.Late time end) → (is_late before.slack events e ≡ true) × (time ≡ e.time) × (Some end ≡ least before.slack events)
  pub count : OnOk result (now.offered ≡ before.offered + 1)
  pub slack : now.slack ≡ before.slack
  pub going : now.ended ≡ false

module _ (old new : RowsAt) (before now : Held) (e : Event) (reads : Reads old [] (e ∷ []) new) (holds : Holds old.reader old.state before) (going : new.state ≡ Going) (open_ : before.kept.ended ≡ false) (untold : now.drained ≡ false) where
  holds_kept : WasOffered before.kept now.kept e (Ok offered.Kept) → Holds new.reader new.state now
  holds_kept was = record {
    stood = ∥∥₁_map holds.stood (λ (stood : Stood old.reader before). record {
      events = stood.events ++ e ∷ [];
      given = stood.given;
      stands = (was.kept stood.events stood.given stood.stands refl).1;
      were = reads.were stood.events stood.were;
      fit = subst (λ (q : Plan). AllFit q (stood.events ++ e ∷ [])) (sym reads.plan) (All-append (λ x. fits (plan_of old.reader.rows) x ≡ true) stood.events (e ∷ []) stood.fit reads.fit);
    });
    offered = omega (arith, was.count, holds.offered, reads.count);
    slack = was.slack ∙ holds.slack ∙ ap (λ (l : Lateness). l.slack) (sym reads.lateness);
    ended = was.going ∙ sym (ap (λ (s : State). is_whole (stop_in s)) going);
    untold = λ goes. untold;
    idle = λ over. busy (seen_by now.drained new.state) (ap is_stopped (ap (λ (s : State). seen_by now.drained s) going ∙ ap (λ (b : Bool). seen_by b Going) untold)) over;
  }

  passes_kept : WasOffered before.kept now.kept e (Ok offered.Kept) → Passes before.kept now.kept (e ∷ []) []
  passes_kept was = passes_offer before.kept now.kept e was.slack open_ (λ events given stands. was.kept events given stands refl)

  pub offered_holds : (result : Result Offered AllocError) → is_err result ≡ false → WasOffered before.kept now.kept e result → Holds new.reader new.state now × Passes before.kept now.kept (e ∷ []) []
  offered_holds (Ok offered.Kept) ok was = (holds_kept was, passes_kept was)
  offered_holds (Ok (offered.Late time end)) ok was =
      absurd (∥∥₁_elim holds.stood never (λ (stood : Stood old.reader before).
      let not = timely_now old new before e reads holds.slack stood in
      let late = (was.late stood.events stood.given stood.stands time end refl).0 in
      cc (not, late)))
  offered_holds (Err error) ok was = absurd (cc ok)

-- memory ran out, and what was read is lost
pub reads_lost_rows : (source : SourceState) (s t : State) (old new : Reader) → s ≡ Going → t ≡ Broken → plan_of new.rows ≡ plan_of old.rows → new.lateness ≡ old.lateness → new.given ≡ old.given → new.greatest ≡ old.greatest
    → Reads (record { source = source; state = s; reader = old }) [] [] (record { source = source; state = t; reader = new })
reads_lost_rows source s t old new going broken plan lateness given greatest =
    subst (λ (a : State). Reads (record { source = source; state = a; reader = old }) [] [] (record { source = source; state = t; reader = new })) (sym going)
    (subst (λ (b : State). Reads (record { source = source; state = Going; reader = old }) [] [] (record { source = source; state = b; reader = new })) (sym broken) (reads_broken source old new plan lateness given greatest))

-- behind the end of the rows the input goes on, where that was not told
pub seen_untold : (held : Held) (state : State) → held.drained ≡ false → state ≡ Stopped End → seen_by held.drained state ≡ Going
seen_untold held state untold ended = ap (λ (b : Bool). seen_by b state) untold ∙ ap (seen_by false) ended

pub only_end : (stop : Stop) → is_end stop ≡ true → stop ≡ End
only_end End is = refl
only_end (ends.Failed failure) is = absurd (cc is)
only_end ends.Open is = absurd (cc is)

-- a stop that is not the end is seen
pub seen_stop : (drained : Bool) (state : State) (stop : Stop) → state ≡ Stopped stop → is_end stop ≡ false → seen_by drained state ≡ Stopped stop
seen_stop drained state End is other = absurd (cc other)
seen_stop true state (ends.Failed failure) is other = is
seen_stop false state (ends.Failed failure) is other = ap (seen_by false) is
seen_stop true state ends.Open is other = is
seen_stop false state ends.Open is other = ap (seen_by false) is

pub stopped_for : (state : State) (stop : Stop) → stop_in state ≡ Some stop → state ≡ Stopped stop
stopped_for Going stop is = absurd (cc is)
stopped_for (Stopped why) stop is = ap Stopped (cc is)
stopped_for Broken stop is = absurd (cc is)

-- an error gives nothing
pub none_given : (result : Result Step AllocError) (put : Option Event) → IsErr result → given_in result put ≡ []
none_given (Ok told) put failed = absurd (cc failed)
none_given (Err error) put failed = refl

-- a source, of which nothing is asked
pub no_source : SourceState
no_source = record { left = None; ended = true; faults = 0 }

-- a put event is the one that was taken
pub put_given : (old new : RowsAt) (put taken : Option Event) (e : Event) → taken ≡ put → taken ≡ Some e → Reads old [] (event_in put) new → Reads old [] (e ∷ []) new
put_given old new put taken e same is = subst (λ (p : Option Event). Reads old [] (event_in p) new) (sym same ∙ is)

pub put_none : (old new : RowsAt) (put taken : Option Event) → taken ≡ put → taken ≡ None → Reads old [] (event_in put) new → Reads old [] [] new
put_none old new put taken same is = subst (λ (p : Option Event). Reads old [] (event_in p) new) (sym same ∙ is)

pub on_err : {T E P : Type 0} (result : Result T E) → is_err result ≡ true → OnErr result P → P
on_err (Ok value) failed p = absurd (cc failed)
on_err (Err error) failed p = p

-- one less than one more
pub one_less : (old mid new : ℕ) → mid ≡ old + 1 → new ≡ mid - 1 → new ≡ old
one_less old mid new more less = omega (arith, more, less)

pub broken_seen : (drained : Bool) → is_stopped (seen_by drained Broken) ≡ false
broken_seen true = refl
broken_seen false = refl

pub not_broken : {P : Type 0} (state : State) → state ≡ Broken → state ≡ Going → P
not_broken state broken goes = absurd (let bad : Broken ≡ Going = sym broken ∙ goes in cc bad)

pub not_stopped : {P : Type 0} (state : State) (stop : Stop) → state ≡ Stopped stop → state ≡ Going → P
not_stopped state stop stopped goes = absurd (let bad : Stopped stop ≡ Going = sym stopped ∙ goes in cc bad)

-- the rows ended, and no more come
module _ (old new : RowsAt) (before now : Held) (mid : Kept) (holds : Holds old.reader old.state before) (going : old.state ≡ Going) (over : new.state ≡ Stopped End)
    (same : mid ≡ before.kept) (ended : now.kept ≡ record mid { ended = true }) (still : (events : List Event) (given : ℕ) → Stands mid events given → Stands now.kept events given) (drained : now.drained ≡ before.drained) where
  stands_over : (events : List Event) (given : ℕ) → Stands before.kept events given → Stands now.kept events given
  stands_over events given stands = still events given (subst (λ (k : Kept). Stands k events given) (sym same) stands)

  slack_over : now.kept.slack ≡ before.kept.slack
  slack_over = ap (λ (k : Kept). k.slack) ended ∙ ap (λ (k : Kept). k.slack) same

  pub passes_ended : Passes before.kept now.kept [] []
  passes_ended = passes_end before.kept now.kept slack_over stands_over

  pub holds_ended : Reads old [] [] new → Holds new.reader new.state now
  holds_ended reads =
      holds_rows old new before now reads holds stands_over (ap (λ (k : Kept). k.offered) ended ∙ ap (λ (k : Kept). k.offered) same) slack_over
      (ap (λ (k : Kept). k.ended) ended ∙ sym (ap (λ (s : State). is_whole (stop_in s)) over)) (not_stopped new.state End over)
      (busy (seen_by now.drained new.state) (ap is_stopped (ap (λ (s : State). seen_by now.drained s) over ∙ ap (λ (b : Bool). seen_by b (Stopped End)) (drained ∙ holds.untold going))))

-- ---- where nothing is held back

pub gives_rows : (old new : RowsAt) (events : List Event) → Reads old [] events new → new.reader.lateness ≡ punctual → GivesBy (with_held old None) [] events (with_held new None)
gives_rows old new events reads on_time = record { more = events; reads = reads; between = refl; sound = sound_at new None on_time }

pub gives_as : (source : SourceState) (old new : Option Held) (before after : RowsAt) (events : List Event) → old ≡ None → new ≡ None → GivesBy (with_held before None) [] events (with_held after None) → GivesBy (with_held before old) [] events (with_held after new)
gives_as source old new before after events one two gives = rw (one, two) gives

-- ---- an input that asks

-- bytes were fed to rows that go on
pub holds_fed : (reader new : Reader) (state next : State) (held : Held) → new ≡ record reader { cutter = new.cutter } → Holds reader state held → state ≡ Going → is_whole (stop_in next) ≡ false → IsIdle (Some held) → Holds new next held
holds_fed reader new state next held fed holds going more idle = record {
  stood = ∥∥₁_map holds.stood (λ (stood : Stood reader held). record {
    events = stood.events;
    given = stood.given;
    stands = stood.stands;
    were = record { count = stood.were.count ∙ sym (ap (λ (r : Reader). r.given) fed); latest = stood.were.latest ∙ sym (ap (λ (r : Reader). r.greatest) fed) };
    fit = subst (λ (q : Plan). AllFit q stood.events) (sym (ap (λ (r : Reader). plan_of r.rows) fed)) stood.fit;
  });
  offered = holds.offered ∙ sym (ap (λ (r : Reader). r.given) fed);
  slack = holds.slack ∙ sym (ap (λ (r : Reader). r.lateness.slack) fed);
  ended = holds.ended ∙ ap (λ (s : State). is_whole (stop_in s)) going ∙ sym more;
  untold = λ goes. holds.untold going;
  idle = λ over. idle;
}

pub whole_seen : (held : Option Held) (state : State) → is_whole (stop_in state) ≡ false → is_whole (stop_in (seen held state)) ≡ false
whole_seen None state more = more
whole_seen (Some held) state more = by held.drained state more
  where
    by : (b : Bool) (s : State) → is_whole (stop_in s) ≡ false → is_whole (stop_in (seen_by b s)) ≡ false
    by true s more = more
    by false Going more = refl
    by false (Stopped End) more = refl
    by false (Stopped (ends.Failed failure)) more = refl
    by false (Stopped ends.Open) more = refl
    by false Broken more = refl

pub seen_going : (held : Option Held) (state : State) → state ≡ Going → seen held state ≡ Going
seen_going None state going = going
seen_going (Some held) state going = by held.drained
  where
    by : (b : Bool) → seen_by b state ≡ Going
    by true = going
    by false = ap (seen_by false) going

-- nothing was read, and nothing is held back
pub holds_new : (reader : Reader) (state : State) (held : Held) → Stands held.kept [] 0 → held.kept.offered ≡ 0 → held.kept.ended ≡ false → held.drained ≡ false → held.kept.slack ≡ reader.lateness.slack → state ≡ Going → reader.given ≡ 0 → reader.greatest ≡ None
    → Holds reader state held
holds_new reader state held stands offered ended untold slack going given latest = record {
  stood = ∣ record {
    events = [];
    given = 0;
    stands = stands;
    were = record { count = sym given; latest = sym latest };
    fit = All-nil (λ x. fits (plan_of reader.rows) x ≡ true);
  } ∣₁;
  offered = offered ∙ sym given;
  slack = slack;
  ended = ended ∙ sym (ap (λ (s : State). is_whole (stop_in s)) going);
  untold = λ goes. untold;
  idle = busy (seen_by held.drained state) (ap is_stopped (ap (seen_by held.drained) going ∙ ap (λ (b : Bool). seen_by b Going) untold));
}
