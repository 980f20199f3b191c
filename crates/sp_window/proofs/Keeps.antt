-- What is kept stands for the events as one more comes, and as they end.
use Rattle.std.proofs.Common.{◌≡◌, inl, inr, ℕ, ℤ, pos, ◌+◌, ◌-◌, ◌%◌, ◌<◌, ◌≤◌, ◌≤ℤ◌, ◌+ℤ◌, ◌*ℤ◌, Bool, true, false, List, [], ◌∷◌, ◌++◌, length, map, drop, Option, Some, None, refl, sym, ap, ◌∙◌, subst, arith}
use Rattle.std.specs.Prelude.{filter, slice_get, ◌==◌, unsigned_abs, if◌then◌else◌}
use Rattle.std.specs.List.{All, prefix_len, filter_map, range_with_len}
use Rattle.std.specs.Option.{option_map}
use Rattle.std.proofs.lemmas.Bool.{cases_lt, cases_eq}
use Rattle.std.proofs.lemmas.Bool.Decides.{nat_tests}
use Rattle.std.proofs.lemmas.Int.{ints}
use Rattle.std.proofs.lemmas.List.{append-nil, length-map, map-append}
use Rattle.std.proofs.lemmas.Option.{slice_get_within, slice_get-map}
use Rattle.std.proofs.lemmas.List.Elements.{All-append, All-weaker, All-push, All-head, All-tail, filter-append}
use Rattle.std.proofs.Math.Nat.{add-mod_right, zero-mod}
use Rattle.sp_base.specs.Limits.{event_limit}
use Rattle.sp_plan.specs.declared.event.Event.{Event}
use Rattle.sp_plan.specs.declared.plan.Plan.{Plan}
use Rattle.sp_plan.specs.declared.plan.Length.{Length}
use Rattle.sp_plan.specs.declared.plan.Length.TheVariants.{Events, Time}
use Rattle.sp_plan.specs.declared.plan.Opening.{Opening}
use Rattle.sp_plan.specs.declared.plan.Opening.TheVariants.{EveryEvents, EveryTime, When}
use Rattle.sp_plan.specs.Events.{fits}
use Rattle.sp_plan.specs.Windows.{Window, windows, windows_by, window_within, spans, duration, closed, IsWindowed, IsOpening}
use Rattle.sp_plan.specs.WindowNumbers.{Good, numbered_window}
use Rattle.sp_window.specs.declared.record.Limit.{Limit}
use Rattle.sp_window.specs.declared.record.Limit.TheVariants.{AtNumber, AtTime}
use Rattle.sp_window.specs.declared.record.Record.{Record}
use Rattle.sp_window.specs.declared.windows.Window as shown_as
use Rattle.sp_window.specs.Limits.{is_reached, settled, closed_from}
use Rattle.sp_window.specs.Times.{stamp, last_stamp}
use Rattle.sp_window.specs.Openings.{opening_by, opened, span_after}
use Rattle.sp_window.specs.Opens.{next_after}
use Rattle.sp_window.specs.Holding.{IsNext, is_below, last_of, is_shut, record_at}
use Rattle.sp_window.specs.Standing.{Kept, Stands, shown}
use Rattle.sp_window.proofs.Lists.{all_at, get_front, get_push, length_push, count_map, filter_none, filter_all, filter_fewer, all_both}
use Rattle.sp_window.proofs.Feeding.{in_time, good_none, last_stamp_push}
use Rattle.sp_window.proofs.Opened.{InOrder, Opens, OpensFew, opening, opening_opens, opened_push, span_after_push, InRange, all_opened, horizon}
use Rattle.sp_window.proofs.Settling.{MaySettle, settled_is, closed_all}
use Rattle.sp_window.proofs.WindowsAre.{window_of, rising}
use Rattle.sp_window.proofs.SpansAre.{windows_are}

-- how many of the windows of good events are closed
pub closed_is : (q : Plan) → IsWindowed q → (events : List Event) (ended : Bool) → Good q events → closed q events ended ≡ length (filter (is_shut events ended) (opened q events))
closed_is q limits events ended good =
    ap (λ (l : List Window). length (filter (λ w. w.closed) l)) (windows_are q limits events ended good) ∙ count_map (window_of events ended) (λ w. w.closed) (opened q events)

-- numbers in order, as times
stamps_order : (a b : ℕ) (s t : ℤ) → s ≡ pos a → t ≡ pos b → a ≤ b → s ≤ℤ t
stamps_order a b s t p q le = omega (arith, ints)

-- good events and one more that is no earlier
pub good_more : (q : Plan) (events : List Event) (e : Event) → Good q events → fits q e ≡ true → last_stamp events ≤ stamp e → Good q (events ++ e ∷ [])
good_more q events e good fits_e rise = (All-push (λ x. fits q x ≡ true) events e good.0 fits_e, λ i j x y le at there. order i j x y le at there)
  where
    order : (i j : ℕ) (x y : Event) → i ≤ j → slice_get (events ++ e ∷ []) i ≡ Some x → slice_get (events ++ e ∷ []) j ≡ Some y → x.time ≤ℤ y.time
    order i j x y le at there = elim (cases_lt j (length events)) [
      | inl below ↦
          good.1 i j x y le (sym (get_front events (e ∷ []) i (omega arith)) ∙ at) (sym (get_front events (e ∷ []) j below) ∙ there)
      | inr past ↦
          let size = length_push events e in
          let end : j < length (events ++ e ∷ []) = slice_get_within (events ++ e ∷ []) j y there in
          let last : j ≡ length events = omega arith in
          let last_y : Some e ≡ Some y = sym (get_push events e) ∙ ap (slice_get (events ++ e ∷ [])) (sym last) ∙ there in
          let is_y : e ≡ y = cc in
          let time_e = in_time q e fits_e in
          elim (cases_lt i (length events)) [
            | inl before ↦
                let front : slice_get events i ≡ Some x = sym (get_front events (e ∷ []) i before) ∙ at in
                let fits_x = all_at (λ x. fits q x ≡ true) events i x good.0 front in
                let low : stamp x ≤ last_stamp events = all_at (λ x. stamp x ≤ last_stamp events) events i x (rising q events good).low front in
                subst (λ (z : Event). x.time ≤ℤ z.time) is_y (stamps_order (stamp x) (stamp e) x.time e.time (in_time q x fits_x).is time_e.is (omega arith))
            | inr same ↦
                let both : i ≡ length events = omega arith in
                let last_x : Some e ≡ Some x = sym (get_push events e) ∙ ap (slice_get (events ++ e ∷ [])) (sym both) ∙ at in
                let is_x : e ≡ x = cc in
                subst (λ (z : Event). z.time ≤ℤ y.time) is_x (subst (λ (z : Event). e.time ≤ℤ z.time) is_y (stamps_order (stamp e) (stamp e) e.time e.time time_e.is time_e.is (omega arith)))
          ]
    ]

-- what is kept after an event, against what was kept before
pub record Feeds (w v : Kept) (e : Event) : Type 0 where
  pub plan_is : v.plan ≡ w.plan
  pub records_are : v.held.records ≡ settled w.held.shut (w.fed + 1) (stamp e) (w.held.records ++ opening_by w.plan.opening w.plan.length (w.fed + 1) w.held.next e)
  pub shut_is : v.held.shut ≡ w.held.shut + prefix_len (λ (r : Record). is_reached r.limit (w.fed + 1) (stamp e)) (drop w.held.shut (w.held.records ++ opening_by w.plan.opening w.plan.length (w.fed + 1) w.held.next e))
  pub next_is : v.held.next ≡ next_after w.plan.opening (w.fed + 1) w.held.next e
  pub fed_is : v.fed ≡ w.fed + 1
  pub time_is : v.time ≡ stamp e
  pub ended_is : v.ended ≡ false

-- the next opening decides which windows open
opening_next : (o : Opening) (l : Length) (n next : ℕ) (events : List Event) (e : Event) → IsNext o events next → opening_by o l n next e ≡ opening_by o l n (span_after o 0 events) e
opening_next (EveryEvents s) l n next events e is = refl
opening_next (When p) l n next events e is = refl
opening_next (EveryTime s) l n next events e is = ap (λ (k : ℕ). opening_by (EveryTime s) l n k e) is

-- the next opening after an event
next_kept : (o : Opening) (next : ℕ) (events : List Event) (e : Event) → ((s : ℕ) → o ≡ EveryEvents s → 0 < s) → IsNext o events next → IsNext o (events ++ e ∷ []) (next_after o (length events + 1) next e)
next_kept (When p) next events e above is = tt
next_kept (EveryTime s) next events e above is = sym (span_after_push (EveryTime s) 0 events e)
next_kept (EveryEvents s) next events e above is = elim (cases_eq (length events + 1) (next + 1)) [
  | inl here ↦
      let test : (length events + 1 == next + 1) ≡ true = grind (arith, nat_tests) in
      let some = above s refl in
      let size = length_push events e in
      let multiple : (next + s) % s ≡ 0 = add-mod_right next s ∙ is.0 in
      let low = is.1 in
      let high = is.2 in
      rw test (multiple, omega arith, omega arith)
  | inr later ↦
      let test : (length events + 1 == next + 1) ≡ false = grind (arith, nat_tests) in
      let size = length_push events e in
      let low = is.1 in
      let high = is.2 in
      rw test (is.0, omega arith, omega arith)
]

-- a step in events is above 0
above_step : (o : Opening) (l : Length) (s : ℕ) → IsOpening l o → o ≡ EveryEvents s → 0 < s
above_step (EveryEvents r) (Events n) s limits is = let same : r ≡ s = cc in let some = limits.0 in omega arith
above_step (EveryEvents r) (Time d) s limits is = let same : r ≡ s = cc in let some = limits.0 in omega arith
above_step (EveryTime r) l s limits is = cc
above_step (When p) l s limits is = cc

-- a window that opens with an event, before that event
fresh : (events : List Event) (e : Event) (late : Limit) (o : Opening) (l : Length) (r : Record) → last_stamp events ≤ stamp e → Opens late o l (length events + 1) e r → is_shut events false r ≡ false
fresh events e late o l r rise opens = by r.limit opens.below
  where
    by : (h : Limit) → is_below h (length events + 1, e) ≡ true → is_reached h (length events) (last_stamp events) ≡ false
    by (AtNumber m) below = grind (arith, nat_tests)
    by (AtTime u) below = grind (arith, nat_tests)

-- a window that is not closed is kept as it was opened
same_record : (events : List Event) (r : Record) → r.end ≡ None → is_shut events false r ≡ false → record_at events false r ≡ r
same_record events r open_end free = ap (λ (b : Bool). record r { end = if b then Some (last_of events r) else None }) free ∙ (λ i. record r { end = sym open_end i })

-- items that a function leaves as they are
map_itself : {X : Type 0} (f : X → X) (xs : List X) → All (λ x. f x ≡ x) xs → map f xs ≡ xs
map_itself f [] same = refl
map_itself f (x ∷ xs) same = λ i. All-head (λ x. f x ≡ x) x xs same i ∷ map_itself f xs (All-tail (λ x. f x ≡ x) x xs same) i

module _ (q : Plan) (limits : IsWindowed q) (events : List Event) (e : Event) (good : Good q events) (rise : last_stamp events ≤ stamp e) where
  -- what the windows keep that the event opens
  news : OpensFew (horizon q.opening q.length (length events) (last_stamp events)) q.opening q.length (length events + 1) e (opening q events e)
  news = opening_opens q limits events e rise

  -- the latest limit of the windows before the event
  abbrev late : Limit
  late = horizon q.opening q.length (length events) (last_stamp events)

  -- no window that the event opens was closed before
  all_free : All (λ r. is_shut events false r ≡ false) (opening q events e)
  all_free = All-weaker (Opens late q.opening q.length (length events + 1) e) (λ r. is_shut events false r ≡ false) (λ r own. fresh events e late q.opening q.length r rise own) (opening q events e) news.open_all

  -- the windows that the event opens, seen before it
  as_opened : map (record_at events false) (opened q events ++ opening q events e) ≡ map (record_at events false) (opened q events) ++ opening q events e
  as_opened =
      map-append (record_at events false) (opened q events) (opening q events e)
      ∙ ap (λ l. map (record_at events false) (opened q events) ++ l)
      (map_itself (record_at events false) (opening q events e)
      (All-weaker (λ r. Opens late q.opening q.length (length events + 1) e r × (is_shut events false r ≡ false)) (λ r. record_at events false r ≡ r) (λ r both. same_record events r both.0.end_is both.1) (opening q events e)
      (all_both (Opens late q.opening q.length (length events + 1) e) (λ r. is_shut events false r ≡ false) (opening q events e) news.open_all all_free)))

  -- none of them is closed before it
  as_shut : length (filter (is_shut events false) (opened q events ++ opening q events e)) ≡ length (filter (is_shut events false) (opened q events))
  as_shut =
      ap length (filter-append (is_shut events false) (opened q events) (opening q events e) ∙ ap (λ l. filter (is_shut events false) (opened q events) ++ l) (filter_none (is_shut events false) (opening q events e) all_free) ∙ append-nil (filter (is_shut events false) (opened q events)))

  -- each window may settle with the event
  may_settle : All (MaySettle events e) (opened q events ++ opening q events e)
  may_settle =
      All-append (MaySettle events e) (opened q events) (opening q events e)
      (All-weaker (InRange q.opening q.length (length events) (last_stamp events)) (MaySettle events e) (λ r own. let high = own.high in record { low = omega arith; new = λ at. absurd (omega arith) }) (opened q events) (all_opened q limits events good).in_range)
      (All-weaker (Opens late q.opening q.length (length events + 1) e) (MaySettle events e) (λ r own. let at = own.first_is in record { low = omega arith; new = λ same. own.below }) (opening q events e) news.open_all)

  -- closing with the event gives the windows after it, and how many are closed then
  settled_all : (fits_e : fits q e ≡ true)
      → (settled (length (filter (is_shut events false) (opened q events))) (length events + 1) (stamp e) (map (record_at events false) (opened q events) ++ opening q events e) ≡ map (record_at (events ++ e ∷ []) false) (opened q (events ++ e ∷ [])))
      × (length (filter (is_shut events false) (opened q events)) + prefix_len (λ (r : Record). is_reached r.limit (length events + 1) (stamp e)) (drop (length (filter (is_shut events false) (opened q events))) (map (record_at events false) (opened q events) ++ opening q events e))
      ≡ length (filter (is_shut (events ++ e ∷ []) false) (opened q (events ++ e ∷ []))))
  settled_all fits_e =
      let rs = opened q events ++ opening q events e in
      let more = opened_push q events e in
      let order : InOrder rs = subst InOrder more (all_opened q limits (events ++ e ∷ []) (good_more q events e good fits_e rise)).in_order in
      let both = settled_is events e rise rs may_settle order in (
        (λ i. settled (sym as_shut i) (length events + 1) (stamp e) (sym as_opened i)) ∙ both.0 ∙ ap (map (record_at (events ++ e ∷ []) false)) (sym more),
        (λ i. sym as_shut i + prefix_len (λ (r : Record). is_reached r.limit (length events + 1) (stamp e)) (drop (sym as_shut i) (sym as_opened i))) ∙ both.1 ∙ ap (λ (l : List Record). length (filter (is_shut (events ++ e ∷ []) false) l)) (sym more),
      )

-- one event more
module _ (w v : Kept) (events : List Event) (e : Event) (limits : IsWindowed w.plan) (stands : Stands w events false) (fits_e : fits w.plan e ≡ true) (rise : w.time ≤ stamp e) (few : w.fed < event_limit) (feeds : Feeds w v e) where
  rises : last_stamp events ≤ stamp e
  rises = let at = stands.time_is in omega arith

  good' : Good w.plan (events ++ e ∷ [])
  good' = good_more w.plan events e stands.good fits_e rises

  next_number : w.fed + 1 ≡ length events + 1
  next_number = let at = stands.fed_is in omega arith

  news_are : opening_by w.plan.opening w.plan.length (w.fed + 1) w.held.next e ≡ opening w.plan events e
  news_are = ap (λ (n : ℕ). opening_by w.plan.opening w.plan.length n w.held.next e) next_number ∙ opening_next w.plan.opening w.plan.length (length events + 1) w.held.next events e stands.held_is.next_is

  shut_before : w.held.shut ≡ length (filter (is_shut events false) (opened w.plan events))
  shut_before = stands.held_is.shut_is ∙ closed_is w.plan limits events false stands.good

  all_before : w.held.records ++ opening_by w.plan.opening w.plan.length (w.fed + 1) w.held.next e ≡ map (record_at events false) (opened w.plan events) ++ opening w.plan events e
  all_before = λ i. stands.held_is.records_are i ++ news_are i

  fed_stands : Stands (record v { plan = w.plan }) (events ++ e ∷ []) false
  fed_stands =
      let settling = settled_all w.plan limits events e stands.good rises fits_e in
      record {
        good = good';
        few = let size = length_push events e in let at = stands.fed_is in omega arith;
        fed_is = let size = length_push events e in let at = feeds.fed_is in let was = stands.fed_is in omega arith;
        time_is = feeds.time_is ∙ sym (last_stamp_push events e);
        ended_is = feeds.ended_is;
        held_is = record {
          records_are = feeds.records_are ∙ (λ i. settled (shut_before i) (next_number i) (stamp e) (all_before i)) ∙ settling.0;
          shut_is = feeds.shut_is ∙ (λ i. shut_before i + prefix_len (λ (r : Record). is_reached r.limit (next_number i) (stamp e)) (drop (shut_before i) (all_before i))) ∙ settling.1 ∙ sym (closed_is w.plan limits (events ++ e ∷ []) false good');
          next_is = subst (λ (n : ℕ). IsNext w.plan.opening (events ++ e ∷ []) n) (sym (feeds.next_is ∙ ap (λ (n : ℕ). next_after w.plan.opening n w.held.next e) next_number))
              (next_kept w.plan.opening w.held.next events e (λ s is. above_step w.plan.opening w.plan.length s limits.opening_is is) stands.held_is.next_is);
        };
      }

  -- what is kept after the event stands for the events with it
  pub stands_fed : Stands v (events ++ e ∷ []) false
  stands_fed = subst (λ (p : Plan). Stands (record v { plan = p }) (events ++ e ∷ []) false) (sym feeds.plan_is) fed_stands

-- nothing kept stands for no events
pub stands_none : (q : Plan) → ((s : ℕ) → q.opening ≡ EveryEvents s → 0 < s) → Stands (record { plan = q; fed = 0; time = 0; ended = false; held = record { records = []; shut = 0; next = 0 } }) [] false
stands_none q above = record {
  good = good_none q;
  few = omega arith;
  fed_is = refl;
  time_is = refl;
  ended_is = refl;
  held_is = record {
    records_are = refl;
    shut_is = sym (none q.opening);
    next_is = next q.opening above;
  };
}
  where
    none : (o : Opening) → length (filter (λ (w : Window). w.closed) (windows_by o q.length [] false)) ≡ 0
    none (EveryEvents s) = refl
    none (When p) = refl
    none (EveryTime s) = ap (λ (l : List Window). length (filter (λ w. w.closed) l)) (spans_none (range_with_len 0 (spans (unsigned_abs s) [])))
      where
        spans_none : (ks : List ℕ) → filter_map (λ k. window_within (pos k *ℤ s) (pos k *ℤ s +ℤ duration q.length) [] false) ks ≡ []
        spans_none [] = refl
        spans_none (k ∷ ks) = spans_none ks

    next : (o : Opening) → ((s : ℕ) → o ≡ EveryEvents s → 0 < s) → IsNext o [] 0
    next (EveryEvents s) above = let some = above s refl in (zero-mod s, omega arith, omega arith)
    next (When p) above = tt
    next (EveryTime s) above = refl

-- the end of input
pub stands_ended : (w v : Kept) (events : List Event) (ended : Bool) → IsWindowed w.plan → Stands w events ended → v.plan ≡ w.plan → v.held.records ≡ closed_from w.held.shut w.fed w.held.records → v.held.shut ≡ length v.held.records → v.held.next ≡ w.held.next
    → v.fed ≡ w.fed → v.time ≡ w.time → v.ended ≡ true → Stands v events true
stands_ended w v events ended limits stands plan_is records_is shut_is next_is fed_is time_is ended_is =
    let q = w.plan in
    let all = all_opened q limits events stands.good in
    let shut_before : w.held.shut ≡ length (filter (is_shut events ended) (opened q events)) = stands.held_is.shut_is ∙ closed_is q limits events ended stands.good in
    let low : All (λ r. r.first ≤ length events) (opened q events) = All-weaker (InRange q.opening q.length (length events) (last_stamp events)) (λ r. r.first ≤ length events) (λ r own. own.high) (opened q events) all.in_range in
    let records : v.held.records ≡ map (record_at events true) (opened q events) = records_is ∙ (λ i. closed_from (shut_before i) (stands.fed_is i) (stands.held_is.records_are i)) ∙ closed_all events ended (opened q events) low all.in_order in
    let count : length v.held.records ≡ length (opened q events) = ap length records ∙ length-map (opened q events) (record_at events true) in
    let all_shut : filter (is_shut events true) (opened q events) ≡ opened q events = filter_all (is_shut events true) (opened q events) (All-weaker (λ r. r.first ≤ length events) (λ r. is_shut events true r ≡ true) (λ r own. refl) (opened q events) low) in
    let now : Stands (record v { plan = w.plan }) events true = record {
      good = stands.good;
      few = stands.few;
      fed_is = fed_is ∙ stands.fed_is;
      time_is = time_is ∙ stands.time_is;
      ended_is = ended_is;
      held_is = record {
        records_are = records;
        shut_is = shut_is ∙ count ∙ sym (closed_is q limits events true stands.good ∙ ap length all_shut);
        next_is = subst (λ (n : ℕ). IsNext q.opening events n) (sym next_is) stands.held_is.next_is;
      };
    } in
    subst (λ (p : Plan). Stands (record v { plan = p }) events true) (sym plan_is) now

-- how many windows are kept
pub count_kept : (w : Kept) (events : List Event) (ended : Bool) → IsWindowed w.plan → Stands w events ended → length w.held.records ≡ length (windows w.plan events ended)
count_kept w events ended limits stands =
    ap length stands.held_is.records_are ∙ length-map (opened w.plan events) (record_at events ended) ∙ sym (ap length (windows_are w.plan limits events ended stands.good) ∙ length-map (opened w.plan events) (window_of events ended))

-- at most 64 for each event
pub few_kept : (w : Kept) (events : List Event) (ended : Bool) → IsWindowed w.plan → Stands w events ended → length w.held.records ≤ 67108864
few_kept w events ended limits stands =
    let count : length w.held.records ≡ length (opened w.plan events) = ap length stands.held_is.records_are ∙ length-map (opened w.plan events) (record_at events ended) in
    let all = (all_opened w.plan limits events stands.good).few in
    let few = stands.few in
    omega arith

-- the closed windows are among those kept
pub shut_within : (w : Kept) (events : List Event) (ended : Bool) → IsWindowed w.plan → Stands w events ended → w.held.shut ≤ length w.held.records
shut_within w events ended limits stands =
    let count : length w.held.records ≡ length (opened w.plan events) = ap length stands.held_is.records_are ∙ length-map (opened w.plan events) (record_at events ended) in
    let shut : w.held.shut ≡ length (filter (is_shut events ended) (opened w.plan events)) = stands.held_is.shut_is ∙ closed_is w.plan limits events ended stands.good in
    let most = filter_fewer (is_shut events ended) (opened w.plan events) in
    omega arith

-- a record as a window is shown
abbrev pub shown_record : Record → shown_as.Window
shown_record r = record { first = r.first; end = r.end }

-- the window at a place
pub window_kept : (w : Kept) (events : List Event) (ended : Bool) (k : ℕ) → IsWindowed w.plan → Stands w events ended → option_map shown_record (slice_get w.held.records k) ≡ option_map shown (slice_get (windows w.plan events ended) k)
window_kept w events ended k limits stands =
    ap (λ (l : List Record). option_map shown_record (slice_get l k)) stands.held_is.records_are
    ∙ ap (option_map shown_record) (slice_get-map (record_at events ended) (opened w.plan events) k)
    ∙ both (slice_get (opened w.plan events) k)
    ∙ sym (ap (λ (l : List Window). option_map shown (slice_get l k)) (windows_are w.plan limits events ended stands.good) ∙ ap (option_map shown) (slice_get-map (window_of events ended) (opened w.plan events) k))
  where
    both : (o : Option Record) → option_map shown_record (option_map (record_at events ended) o) ≡ option_map shown (option_map (window_of events ended) o)
    both None = refl
    both (Some r) = refl

-- the same of what is kept by a compiled plan
pub above_steps : (q : Plan) → IsWindowed q → (s : ℕ) → q.opening ≡ EveryEvents s → 0 < s
above_steps q limits s is = above_step q.opening q.length s limits.opening_is is

-- the window of a number from 1 on
pub gets_window : (w : Kept) (events : List Event) (ended : Bool) (number : ℕ) → IsWindowed w.plan → Stands w events ended → (number ≡ 0 → ⊥) → option_map shown_record (slice_get w.held.records (number - 1)) ≡ option_map shown (numbered_window w.plan events ended number)
gets_window w events ended number limits stands some =
    let test : (number == 0) ≡ false = grind (arith, nat_tests) in
    window_kept w events ended (number - 1) limits stands ∙ ap (option_map shown) (sym (rw test refl))

-- what is kept after an event, by its parts
pub feeds_from : (w v : Kept) (e : Event) (q : Plan) (rs : List Record) → q ≡ w.plan → rs ≡ w.held.records ++ opening_by q.opening q.length (w.fed + 1) w.held.next e → v.plan ≡ w.plan → v.held.records ≡ settled w.held.shut (w.fed + 1) (stamp e) rs
    → v.held.shut ≡ w.held.shut + prefix_len (λ (r : Record). is_reached r.limit (w.fed + 1) (stamp e)) (drop w.held.shut rs) → v.held.next ≡ next_after q.opening (w.fed + 1) w.held.next e → v.fed ≡ w.fed + 1 → v.time ≡ stamp e → v.ended ≡ false → Feeds w v e
feeds_from w v e q rs plan_is opened kept_plan records shut next fed time ended =
    let all : rs ≡ w.held.records ++ opening_by w.plan.opening w.plan.length (w.fed + 1) w.held.next e = opened ∙ ap (λ (p : Plan). w.held.records ++ opening_by p.opening p.length (w.fed + 1) w.held.next e) plan_is in
    record {
      plan_is = kept_plan;
      records_are = records ∙ ap (settled w.held.shut (w.fed + 1) (stamp e)) all;
      shut_is = shut ∙ ap (λ (l : List Record). w.held.shut + prefix_len (λ (r : Record). is_reached r.limit (w.fed + 1) (stamp e)) (drop w.held.shut l)) all;
      next_is = next ∙ ap (λ (p : Plan). next_after p.opening (w.fed + 1) w.held.next e) plan_is;
      fed_is = fed;
      time_is = time;
      ended_is = ended;
    }
