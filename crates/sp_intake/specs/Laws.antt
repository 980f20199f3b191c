-- Laws of what an input gives: where it was not asked it gave nothing, what it gives is good, and what it gives from one standing on comes behind what it gave before.
use mathlib.Core.Logic.{∥∥₁_elim}
use Rattle.std.specs.Prelude.{◌≡◌, ◌≤◌, ◌+◌, ℕ, ℤ, true, List, [], ◌∷◌, ◌++◌, length, take, drop, Option, Some, None, slice_get, refl}
use Rattle.std.proofs.Math.Bool.{Bool-set}
use Rattle.std.proofs.Math.Bridge.{le_prop}
use Rattle.std.proofs.Math.Dec.{T_prop}
use Rattle.std.specs.List.{All}
use Rattle.std.specs.Option.{option_map, ForSome}
use Rattle.sp_io.specs.Outside.{SourceState}
use Rattle.std.proofs.Common.{zero, suc, inl, inr, sym, ◌∙◌, ap, subst, append_assoc, length-append, arith}
use Rattle.std.proofs.lemmas.Int.{ints}
use Rattle.std.proofs.lemmas.List.{append-nil, take-append-drop}
use Rattle.std.proofs.lemmas.List.Elements.{All-append, All-nil, All-push, All-head, All-tail}
use Rattle.sp_base.specs.Limits.{event_limit}
use Rattle.sp_plan.specs.Events.{fits, AllFit, NeverGoesBack}
use Rattle.sp_plan.specs.declared.event.Event.{Event}
use Rattle.sp_plan.specs.declared.plan.Plan.{Plan}
use Rattle.sp_ports.specs.Giving.{AreGood}
use Rattle.sp_rows.specs.Progress.{plan_of}
use Rattle.sp_slack.specs.HeldBack.{sorted, AreTimely}
use Rattle.sp_slack.specs.Standing.{Kept, Stands}
use Rattle.sp_slack.proofs.Sorting.{all_sorted, rise_sorted, rise_ordered}
use Rattle.sp_intake.specs.declared.reader.State.{State}
use Rattle.sp_intake.specs.declared.events.EventReader.{EventReader}
use Rattle.sp_intake.specs.Asked.{standing}
use Rattle.sp_intake.specs.Following.{ComeNext}
use Rattle.sp_intake.specs.Loose.{Lateness}
use Rattle.sp_intake.specs.LooseLaws.{punctual}
use Rattle.sp_intake.specs.Orderly.{none_next, next_more}
use Rattle.sp_intake.specs.Pieces.{Asked}
use Rattle.sp_intake.specs.Reader.{Reader, WereGiven, last_of}
use Rattle.sp_intake.specs.declared.held.Held as declared
use Rattle.sp_intake.specs.RowsSeen.{reader_of, rows_at, held_of}
use Rattle.sp_intake.specs.Standing.{RowsAt, Since, Reads, Held, Standing, with_held, Passes, Between, IsSound, GivesBy, Gives, HoldsBack, Holds, Stood}

-- ---- rows

pub reads_none : (now : RowsAt) → Reads now [] [] now
reads_none now = record {
  plan = refl;
  lateness = refl;
  count = omega arith;
  few = omega arith;
  fit = All-nil (λ x. fits (plan_of now.reader.rows) x ≡ true);
  timely = λ first were. tt;
  were = λ first were. subst (λ (events : List Event). WereGiven events now.reader) (sym (append-nil first)) were;
  next = λ on_time. none_next (plan_of now.reader.rows) (last_of now.reader) (last_of now.reader) (omega (arith, ints));
  since = λ q l origin taken first since.
      subst (λ (bytes : List ℕ). Since q l origin bytes (first ++ []) now) (sym (append-nil taken))
      (subst (λ (events : List Event). Since q l origin taken events now) (sym (append-nil first)) since);
}

-- none of some events is late, and none of others behind them
timely_more : (slack : ℤ) (first xs ys : List Event) → AreTimely slack first xs → AreTimely slack (first ++ xs) ys → AreTimely slack first (xs ++ ys)
timely_more slack first [] ys one two = subst (λ (l : List Event). AreTimely slack l ys) (append-nil first) two
timely_more slack first (x ∷ xs) ys one two =
    (one.0, timely_more slack (first ++ x ∷ []) xs ys one.1 (subst (λ (l : List Event). AreTimely slack l ys) (sym (append_assoc first (x ∷ []) xs)) two))

-- one reading behind another
pub reads_more : (a b c : RowsAt) (front piece : List ℕ) (xs ys : List Event) → length (xs ++ ys) ≤ event_limit → Reads a front xs b → Reads b piece ys c → Reads a (front ++ piece) (xs ++ ys) c
reads_more a b c front piece xs ys few one two = record {
  plan = two.plan ∙ one.plan;
  lateness = two.lateness ∙ one.lateness;
  count = omega (arith, length-append xs ys, one.count, two.count);
  few = few;
  fit = All-append (λ x. fits (plan_of a.reader.rows) x ≡ true) xs ys one.fit (subst (λ (q : Plan). AllFit q ys) one.plan two.fit);
  timely = λ first were.
      timely_more a.reader.lateness.slack first xs ys (one.timely first were)
      (subst (λ (l : Lateness). AreTimely l.slack (first ++ xs) ys) one.lateness (two.timely (first ++ xs) (one.were first were)));
  were = λ first were. subst (λ (events : List Event). WereGiven events c.reader) (append_assoc first xs ys) (two.were (first ++ xs) (one.were first were));
  next = λ on_time. next_more (plan_of a.reader.rows) (last_of a.reader) (last_of b.reader) (last_of c.reader) xs ys (one.next on_time)
      (subst (λ (q : Plan). ComeNext q (last_of b.reader) ys (last_of c.reader)) one.plan (two.next (one.lateness ∙ on_time)));
  since = λ q l origin taken first since.
      subst (λ (bytes : List ℕ). Since q l origin bytes (first ++ (xs ++ ys)) c) (append_assoc taken front piece)
      (subst (λ (events : List Event). Since q l origin ((taken ++ front) ++ piece) events c) (append_assoc first xs ys)
      (two.since q l origin (taken ++ front) (first ++ xs) (one.since q l origin taken first since)));
}

-- ---- what is held back

-- events were offered, and none was given
pub passes_none : (old new : Kept) (more : List Event) → new.slack ≡ old.slack
    → ((first : List Event) (given : ℕ) → Stands old first given → Stands new (first ++ more) given × (take given (sorted (first ++ more)) ≡ take given (sorted first))) → Passes old new more []
passes_none old new more slack still = record {
  slack = slack;
  on = λ first given stands.
      let on = still first given stands in
      let same : given + 0 ≡ given = omega arith in
      record {
        stands = subst (Stands new (first ++ more)) (sym same) on.0;
        are = ap (λ (n : ℕ). take n (sorted (first ++ more))) same ∙ on.1 ∙ sym (append-nil (take given (sorted first)));
      };
}

pub passes_more : (a b c : Kept) (xs ys given more : List Event) → Passes a b xs given → Passes b c ys more → Passes a c (xs ++ ys) (given ++ more)
passes_more a b c xs ys given more one two = record {
  slack = two.slack ∙ one.slack;
  on = λ first n stands.
      let front = one.on first n stands in
      let behind = two.on (first ++ xs) (n + length given) front.stands in
      let events = append_assoc first xs ys in
      let many : (n + length given) + length more ≡ n + length (given ++ more) = omega (arith, length-append given more) in
      record {
        stands = subst (Stands c (first ++ (xs ++ ys))) many (subst (λ (l : List Event). Stands c l ((n + length given) + length more)) events behind.stands);
        are = ap (λ (m : ℕ). take m (sorted (first ++ (xs ++ ys)))) (sym many) ∙ ap (λ (l : List Event). take ((n + length given) + length more) (sorted l)) (sym events)
            ∙ behind.are ∙ ap (λ (l : List Event). l ++ more) front.are ∙ append_assoc (take n (sorted first)) given more;
      };
}

pub between_none : (held : Option Held) → Between held held [] []
between_none None = refl
between_none (Some held) = passes_none held.kept held.kept [] refl (λ first given stands. let same = append-nil first in (
  subst (λ (l : List Event). Stands held.kept l given) (sym same) stands,
  ap (λ (l : List Event). take given (sorted l)) same,
))

between_more : (a b c : Option Held) (xs ys given more : List Event) → Between a b xs given → Between b c ys more → Between a c (xs ++ ys) (given ++ more)
between_more None None None xs ys given more one two = λ i. one i ++ two i
between_more None None (Some c) xs ys given more one two = absurd two
between_more None (Some b) c xs ys given more one two = absurd one
between_more (Some a) None c xs ys given more one two = absurd one
between_more (Some a) (Some b) None xs ys given more one two = absurd two
between_more (Some a) (Some b) (Some c) xs ys given more one two = passes_more a.kept b.kept c.kept xs ys given more one two

-- an input as its reader knows it is seen as it is
pub sound_at : (rows : RowsAt) (held : Option Held) → HoldsBack rows.reader rows.state held → IsSound (with_held rows held)
sound_at rows None holds = record { source = refl; state = refl; ended = tt; idle = λ over. tt }
sound_at rows (Some held) holds = record { source = refl; state = refl; ended = holds.ended; idle = holds.idle }

-- the same of an input that is read
pub holds_by : (reader : Reader) (state : State) (held : Option declared.Held) → (held ≡ None → reader.lateness ≡ punctual) → ForSome held (λ own. Holds reader state (held_of own)) → HoldsBack reader state (option_map held_of held)
holds_by reader state None on_time holds = on_time refl
holds_by reader state (Some own) on_time holds = holds own refl

pub holds_in : (events : EventReader) → HoldsBack (reader_of events.rows) events.rows.state (option_map held_of events.held)
holds_in events = holds_by (reader_of events.rows) events.rows.state events.held events.on_time events.holds

pub sound_in : (source : SourceState) (events : EventReader) → IsSound (standing source events)
sound_in source events = sound_at (rows_at source events.rows) (option_map held_of events.held) (holds_in events)

-- ---- an input

pub gives_none : (now : Standing) → IsSound now → GivesBy now [] [] now
gives_none now sound = record { more = []; reads = reads_none now.rows; between = between_none now.held; sound = sound }

-- what it gives behind what it gave
pub gives_more : (a b c : Standing) (front piece : List ℕ) (xs ys : List Event) → c.rows.reader.given + c.rows.reader.late ≤ event_limit → GivesBy a front xs b → GivesBy b piece ys c → GivesBy a (front ++ piece) (xs ++ ys) c
gives_more a b c front piece xs ys small one two = record {
  more = one.more ++ two.more;
  reads = reads_more a.rows b.rows c.rows front piece one.more two.more (omega (arith, length-append one.more two.more, one.reads.count, two.reads.count, small)) one.reads two.reads;
  between = between_more a.held b.held c.held one.more two.more xs ys one.between two.between;
  sound = two.sound;
}

-- what stands in a list stands in it and more
pub at_first : (xs ys : List Event) (i : ℕ) (x : Event) → slice_get xs i ≡ Some x → slice_get (xs ++ ys) i ≡ Some x
at_first [] ys i x is = absurd (cc is)
at_first (w ∷ xs) ys zero x is = is
at_first (w ∷ xs) ys (suc i) x is = at_first xs ys i x is

-- and behind others
part_at : (xs ys zs : List Event) (i : ℕ) (x : Event) → slice_get ys i ≡ Some x → slice_get ((xs ++ ys) ++ zs) (length xs + i) ≡ Some x
part_at [] ys zs i x is = let same : 0 + i ≡ i = omega arith in ap (slice_get (ys ++ zs)) same ∙ at_first ys zs i x is
part_at (w ∷ xs) ys zs i x is =
    let same : suc (length xs) + i ≡ suc (length xs + i) = omega arith in
    ap (slice_get (((w ∷ xs) ++ ys) ++ zs)) same ∙ part_at xs ys zs i x is

pub part_ordered : (xs ys zs : List Event) → NeverGoesBack ((xs ++ ys) ++ zs) → NeverGoesBack ys
part_ordered xs ys zs ordered i j x y le xi yj = ordered (length xs + i) (length xs + j) x y (omega (arith, le)) (part_at xs ys zs i x xi) (part_at xs ys zs j y yj)

pub all_front : (P : Event → Type 0) (xs ys : List Event) → All P (xs ++ ys) → All P xs
all_front P [] ys all = All-nil P
all_front P (x ∷ xs) ys all = All-append P (x ∷ []) xs (All-push P [] x (All-nil P) (All-head P x (xs ++ ys) all)) (all_front P xs ys (All-tail P x (xs ++ ys) all))

all_behind : (P : Event → Type 0) (xs ys : List Event) → All P (xs ++ ys) → All P ys
all_behind P [] ys all = all
all_behind P (x ∷ xs) ys all = all_behind P xs ys (All-tail P x (xs ++ ys) all)

-- events that are given of those that are held back are good
good_of : (reader : Reader) (old new : Held) (more events : List Event) → Stood reader old → AllFit (plan_of reader.rows) more → reader.given + length more ≤ event_limit → Passes old.kept new.kept more events → AreGood (plan_of reader.rows) events
good_of reader old new more events stood fit small passes =
    let q = plan_of reader.rows in
    let first = stood.events in
    let own = take stood.given (sorted first) in
    let all = first ++ more in
    let on = passes.on first stood.given stood.stands in
    let rest = drop (stood.given + length events) (sorted all) in
    let are : sorted all ≡ (own ++ events) ++ rest = sym (take-append-drop (stood.given + length events) (sorted all)) ∙ ap (λ (l : List Event). l ++ rest) on.are in
    let fits_all = all_sorted (fits q) all (All-append (λ x. fits q x ≡ true) first more stood.fit fit) in
    let fits_front = all_front (λ x. fits q x ≡ true) (own ++ events) rest (subst (AllFit q) are fits_all) in
    record {
      good = (all_behind (λ x. fits q x ≡ true) own events fits_front, part_ordered own events rest (subst NeverGoesBack are (rise_ordered (sorted all) (rise_sorted all))));
      few = omega (arith, on.stands.some, length-append first more, stood.were.count, small);
    }

good_once : (q : Plan) (events : List Event) → IsProp (AreGood q events)
good_once q events = hlevel (Bool-set, T_prop, le_prop)

pub gives_good : (old new : Standing) (events : List Event) → HoldsBack old.rows.reader old.rows.state old.held → new.rows.reader.given + new.rows.reader.late ≤ event_limit → Gives old events new → AreGood (plan_of old.rows.reader.rows) events
gives_good old new events holds small gives = by old.held new.held holds gives.1.between
  where
    reads : Reads old.rows gives.0 gives.1.more new.rows
    reads = gives.1.reads

    by : (one other : Option Held) → HoldsBack old.rows.reader old.rows.state one → Between one other gives.1.more events → AreGood (plan_of old.rows.reader.rows) events
    by None None on_time same =
        let next = reads.next on_time in
        subst (AreGood (plan_of old.rows.reader.rows)) (sym same) (record { good = (next.fit, next.ordered); few = reads.few })
    by None (Some g) on_time between = absurd between
    by (Some h) None holds between = absurd between
    by (Some h) (Some g) holds passes =
        ∥∥₁_elim holds.stood (good_once (plan_of old.rows.reader.rows) events) (λ (stood : Stood old.rows.reader h). good_of old.rows.reader h g gives.1.more events stood reads.fit (omega (arith, reads.count, small)) passes)

pub asked_none : (now : Standing) → IsSound now → Asked now [] [] now
asked_none now sound = inl (refl, gives_none now sound)

pub asked_gives : (old : Standing) (before events : List Event) (new : Standing) → Asked old before events new → Gives old events new
asked_gives old before events new (inl none) = ([], none.1)
asked_gives old before events new (inr behind) = (
  behind.front ++ behind.piece,
  subst (λ (l : List Event). GivesBy old (behind.front ++ behind.piece) l new) (sym behind.are)
      (gives_more old behind.between new behind.front behind.piece before behind.others behind.few behind.first behind.last),
)
