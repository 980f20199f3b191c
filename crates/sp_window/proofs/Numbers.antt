-- Windows by their numbers, as events come and end.
use Rattle.std.proofs.Common.{◌≡◌, ◌↔◌, inl, inr, ℕ, zero, suc, ◌+◌, ◌-◌, ◌<◌, ◌≤◌, Bool, true, false, ◌||◌, List, [], ◌∷◌, ◌++◌, length, take, drop, Some, refl, sym, ap, ◌∙◌, subst, arith, length-append}
use Rattle.std.specs.Prelude.{filter, slice_get, ◌==◌}
use Rattle.std.specs.List.{All}
use Rattle.std.specs.Option.{option_map}
use Rattle.std.proofs.lemmas.Bool.{cases_Bool}
use Rattle.std.proofs.lemmas.Bool.Decides.{nat_tests}
use Rattle.std.proofs.lemmas.List.{length-map}
use Rattle.std.proofs.lemmas.List.Elements.{All-cons, All-weaker, filter-append}
use Rattle.std.proofs.lemmas.Option.{slice_get-map, slice_get_within}
use Rattle.sp_plan.specs.declared.event.Event.{Event}
use Rattle.sp_plan.specs.declared.plan.Plan.{Plan}
use Rattle.sp_plan.specs.Windows.{numbered, Window, windows, closed, events_of, IsWindowed}
use Rattle.sp_plan.specs.WindowNumbers.{Good, count, first, size, first_of, size_of, numbered_window}
use Rattle.sp_window.specs.declared.record.Record.{Record}
use Rattle.sp_window.specs.Times.{stamp, last_stamp}
use Rattle.sp_window.specs.Openings.{opened}
use Rattle.sp_window.specs.Holding.{last_of, is_shut}
use Rattle.sp_window.specs.Laws.{GoodEvents, IsNumber, Holds, AreFew, KeptByFeeding, ClosedFirst}
use Rattle.sp_window.proofs.Lists.{all_at, get_front, get_there, length_push, filter_all, filter_none, filter_fewer}
use Rattle.sp_window.proofs.Feeding.{good_none, good_less, last_stamp_push}
use Rattle.sp_window.proofs.Lasts.{first_le_last, last_within, last_rises, last_stays, last_open, reached, stays_reached}
use Rattle.sp_window.proofs.Opened.{opened_push, opening, Follows, InOrder, InRange, all_opened}
use Rattle.sp_window.proofs.Parts.{events_are}
use Rattle.sp_window.proofs.Settling.{none_behind}
use Rattle.sp_window.proofs.WindowsAre.{window_of}
use Rattle.sp_window.proofs.SpansAre.{windows_are}
use Rattle.sp_window.proofs.Keeps.{closed_is}

-- the law of good events
pub good_events : (q : Plan) → GoodEvents q
good_events q = record { none = good_none q; less = λ events e good. (good_less q events e good).before }

-- windows in order, by their places
follows_at : (rs : List Record) (i j : ℕ) (r s : Record) → InOrder rs → i ≤ j → slice_get rs i ≡ Some r → slice_get rs j ≡ Some s → r.first ≤ s.first
follows_at [] i j r s order le at there = cc
follows_at (x ∷ rs) zero zero r s order le at there = let same : r ≡ s = cc in let numbers = ap (λ (z : Record). z.first) same in omega arith
follows_at (x ∷ rs) zero (suc j) r s order le at there = let same : x ≡ r = cc in subst (λ (z : Record). z.first ≤ s.first) same (all_at (Follows x) rs j s order.0 there).first
follows_at (x ∷ rs) (suc i) zero r s order le at there = absurd (omega arith)
follows_at (x ∷ rs) (suc i) (suc j) r s order le at there = follows_at rs i j r s order.1 (omega arith) at there

-- where the first window is not closed none is
none_shut : (events : List Event) (ended : Bool) (x : Record) (rs : List Record) (k : ℕ) (r : Record) → All (Follows x) rs → is_shut events ended x ≡ false → slice_get (x ∷ rs) k ≡ Some r
    → (is_shut events ended r ≡ true) ↔ (k < length (filter (is_shut events ended) (x ∷ rs)))
none_shut events ended x rs k r after free at =
    let none : All (λ s. is_shut events ended s ≡ false) (x ∷ rs) = All-cons (λ s. is_shut events ended s ≡ false) x rs free (none_behind events ended x rs after free) in
    let own : is_shut events ended r ≡ false = all_at (λ s. is_shut events ended s ≡ false) (x ∷ rs) k r none at in
    let size : length (filter (is_shut events ended) (x ∷ rs)) ≡ 0 = ap length (filter_none (is_shut events ended) (x ∷ rs) none) in
    (λ shut. absurd (cc), λ low. absurd (omega arith))

-- a window is closed exactly where it is among as many first ones as are closed
pub shut_front : (events : List Event) (ended : Bool) (rs : List Record) (k : ℕ) (r : Record) → InOrder rs → slice_get rs k ≡ Some r → (is_shut events ended r ≡ true) ↔ (k < length (filter (is_shut events ended) rs))
shut_front events ended [] k r order at = cc
shut_front events ended (x ∷ rs) zero r order at = elim (cases_Bool (is_shut events ended x)) [
  | inl shut ↦
      let size : length (filter (is_shut events ended) (x ∷ rs)) ≡ suc (length (filter (is_shut events ended) rs)) = rw shut refl in
      let same : x ≡ r = cc in
      (λ own. omega arith, λ low. subst (λ (z : Record). is_shut events ended z ≡ true) same shut)
  | inr free ↦ none_shut events ended x rs zero r order.0 free at
]
shut_front events ended (x ∷ rs) (suc k) r order at = elim (cases_Bool (is_shut events ended x)) [
  | inl shut ↦
      let size : length (filter (is_shut events ended) (x ∷ rs)) ≡ suc (length (filter (is_shut events ended) rs)) = rw shut refl in
      let rest = shut_front events ended rs k r order.1 at in
      (λ own. let low = rest.0 own in omega arith, λ low. rest.1 (omega arith))
  | inr free ↦ none_shut events ended x rs (suc k) r order.0 free at
]

-- the window of a number, as it was opened
pub record At (q : Plan) (events : List Event) (w : ℕ) : Type 0 where
  pub r : Record
  pub opened_as : slice_get (opened q events) (w - 1) ≡ Some r
  pub low : 1 ≤ r.first
  pub high : r.first ≤ length events
  pub is : (ended : Bool) → numbered_window q events ended w ≡ Some (window_of events ended r)

-- the window of a number from 1 on stands one place before it
pub number_test : (q : Plan) (events : List Event) (ended : Bool) (w : ℕ) → 1 ≤ w → numbered_window q events ended w ≡ slice_get (windows q events ended) (w - 1)
number_test q events ended w low = let test : (w == 0) ≡ false = grind (arith, nat_tests) in rw test refl

-- as many windows are there as were opened
pub count_is : (q : Plan) → IsWindowed q → (events : List Event) → Good q events → count q events ≡ length (opened q events)
count_is q limits events good = ap length (windows_are q limits events false good) ∙ length-map (opened q events) (window_of events false)

-- the law of few windows
pub windows_are_few : (q : Plan) → IsWindowed q → AreFew q
windows_are_few q limits events good =
    let count = count_is q limits events good in
    let few = (all_opened q limits events good).few in
    omega arith

-- the window of a number, by the place where it was opened
at_place : (q : Plan) → IsWindowed q → (events : List Event) (ended : Bool) (w : ℕ) (r : Record) → Good q events → 1 ≤ w → slice_get (opened q events) (w - 1) ≡ Some r → numbered_window q events ended w ≡ Some (window_of events ended r)
at_place q limits events ended w r good low at =
    number_test q events ended w low ∙ ap (λ (l : List Window). slice_get l (w - 1)) (windows_are q limits events ended good) ∙ slice_get-map (window_of events ended) (opened q events) (w - 1) ∙ ap (option_map (window_of events ended)) at

-- each number has its window
pub at_number : (q : Plan) → IsWindowed q → (events : List Event) (w : ℕ) → IsNumber q events w → At q events w
at_number q limits events w number = by (get_there (opened q events) (w - 1) (let count = count_is q limits events number.good in let low = number.low in let high = number.high in omega arith))
  where
    by : (r : Record) × (slice_get (opened q events) (w - 1) ≡ Some r) → At q events w
    by (r, at) =
        let own = all_at (InRange q.opening q.length (length events) (last_stamp events)) (opened q events) (w - 1) r (all_opened q limits events number.good).in_range at in
        record { r = r; opened_as = at; low = own.low; high = own.high; is = λ ended. at_place q limits events ended w r number.good number.low at }

-- what is said of a window by its number
first_at : (q : Plan) (events : List Event) (w : ℕ) (at : At q events w) → first q events w ≡ at.r.first
first_at q events w at = ap first_of (at.is false)

-- how many events a window has, by how it was opened
size_at : (q : Plan) (events : List Event) (w : ℕ) (at : At q events w) → size q events w ≡ last_of events at.r + 1 - at.r.first
size_at q events w at = ap size_of (at.is false)

-- the last event of a window was fed
pub last_high : (q : Plan) (events : List Event) (w : ℕ) (at : At q events w) → last_of events at.r ≤ length events
last_high q events w at = let low = last_within at.r events in let high = at.high in omega arith

-- the law of what windows hold
pub windows_hold : (q : Plan) → IsWindowed q → Holds q
windows_hold q limits = record {
  there = λ events w number ended. let at = at_number q limits events w number in let f = first_at q events w at in let s = size_at q events w at in let l = first_le_last at.r events in (window_of events ended at.r, at.is ended, sym f, omega arith);
  low = λ events w number. let at = at_number q limits events w number in let f = first_at q events w at in let l = at.low in omega arith;
  some = λ events w number. let at = at_number q limits events w number in let s = size_at q events w at in let l = first_le_last at.r events in omega arith;
  within = λ events w number. let at = at_number q limits events w number in let f = first_at q events w at in let s = size_at q events w at in let l = first_le_last at.r events in let h = last_high q events w at in omega arith;
  members = λ events w ended x number is. members events w ended x (at_number q limits events w number) is;
  in_order = λ events v w low le number. in_order events v w low le number;
  open_reaches = λ events w ended x number is free. open_reaches events w ended x (at_number q limits events w number) is free;
}
  where
    late_part : (a b : Bool) → (a || b) ≡ false → b ≡ false
    late_part true b is = cc
    late_part false b is = is

    open_reaches : (events : List Event) (w : ℕ) (ended : Bool) (x : Window) (at : At q events w) → numbered_window q events ended w ≡ Some x → x.closed ≡ false → first q events w + size q events w ≡ length events + 1
    open_reaches events w ended x at is free =
        let both : Some (window_of events ended at.r) ≡ Some x = sym (at.is ended) ∙ is in
        let same : window_of events ended at.r ≡ x = cc in
        let flag : is_shut events ended at.r ≡ false = ap (λ (z : Window). z.closed) same ∙ free in
        let last = last_open at.r events at.high (late_part ended (reached events at.r) flag) in
        let f = first_at q events w at in
        let s = size_at q events w at in
        let high = at.high in
        omega arith

    members : (events : List Event) (w : ℕ) (ended : Bool) (x : Window) (at : At q events w) → numbered_window q events ended w ≡ Some x → events_of events x ≡ take (size q events w) (drop (first q events w - 1) (numbered events))
    members events w ended x at is =
        let both : Some (window_of events ended at.r) ≡ Some x = sym (at.is ended) ∙ is in
        let same : window_of events ended at.r ≡ x = cc in
        let l = first_le_last at.r events in
        let part = events_are events (window_of events ended at.r) at.low (omega arith) in
        let f = first_at q events w at in
        let s = size_at q events w at in
        ap (events_of events) (sym same) ∙ part ∙ (λ i. take (sym s i) (drop (sym f i - 1) (numbered events)))

    in_order : (events : List Event) (v w : ℕ) → 1 ≤ v → v ≤ w → IsNumber q events w → first q events v ≤ first q events w
    in_order events v w low le number =
        let high = number.high in
        let early : IsNumber q events v = record { good = number.good; low = low; high = omega arith } in
        let a = at_number q limits events v early in
        let b = at_number q limits events w number in
        let f = first_at q events v a in
        let g = first_at q events w b in
        let order = follows_at (opened q events) (v - 1) (w - 1) a.r b.r (all_opened q limits events number.good).in_order (omega arith) a.opened_as b.opened_as in
        omega arith

-- a window after one event more
pub fed_at : (q : Plan) → IsWindowed q → (events : List Event) (e : Event) (w : ℕ) → Good q (events ++ e ∷ []) → 1 ≤ w → (at : At q events w) → (ended : Bool) → numbered_window q (events ++ e ∷ []) ended w ≡ Some (window_of (events ++ e ∷ []) ended at.r)
fed_at q limits events e w good low at ended =
    let within = slice_get_within (opened q events) (w - 1) at.r at.opened_as in
    at_place q limits (events ++ e ∷ []) ended w at.r good low
    (ap (λ (l : List Record). slice_get l (w - 1)) (opened_push q events e) ∙ get_front (opened q events) (opening q events e) (w - 1) within ∙ at.opened_as)

-- a number after one event more was one before
is_number : (q : Plan) (events : List Event) (e : Event) (w : ℕ) → Good q (events ++ e ∷ []) → 1 ≤ w → w ≤ count q events → IsNumber q events w
is_number q events e w good low high = record { good = (good_less q events e good).before; low = low; high = high }

-- the law of one event more
pub windows_are_kept : (q : Plan) → IsWindowed q → KeptByFeeding q
windows_are_kept q limits = record {
  count_fed = λ events e good.
      let was = count_is q limits events (good_less q events e good).before in
      let now = count_is q limits (events ++ e ∷ []) good in
      let more = ap length (opened_push q events e) in
      let size = length-append (opened q events) (opening q events e) in
      omega arith;
  first_fed = λ events e w good low high.
      let at = at_number q limits events w (is_number q events e w good low high) in
      ap first_of (fed_at q limits events e w good low at false) ∙ sym (first_at q events w at);
  size_fed = λ events e w good low high.
      let at = at_number q limits events w (is_number q events e w good low high) in
      let was = size_at q events w at in
      let now = ap size_of (fed_at q limits events e w good low at false) in
      let rise = last_rises events e at.r (last_within at.r events) in
      omega arith;
}

-- a wider test passes as many items or more
filter_more : {X : Type 0} (p r : X → Bool) (xs : List X) → ((x : X) → p x ≡ true → r x ≡ true) → length (filter p xs) ≤ length (filter r xs)
filter_more p r [] more = omega arith
filter_more p r (x ∷ xs) more =
    let rest = filter_more p r xs more in
    elim (cases_Bool (p x)) [
      | inl keeps ↦ let also = more x keeps in rw (keeps, also) (omega arith)
      | inr drops ↦ elim (cases_Bool (r x)) [ inl takes ↦ rw (drops, takes) (omega arith) | inr leaves ↦ rw (drops, leaves) rest ]
    ]

-- the law of closed windows
pub closed_come_first : (q : Plan) → IsWindowed q → ClosedFirst q
closed_come_first q limits = record {
  front = λ events ended w x number is. front events ended w x number (at_number q limits events w number) is;
  within = λ events ended good. within events ended good;
  over = λ events good. over events good;
  closed_end = λ events good. let most = within events false good in let all = over events good in omega arith;
  closed_fed = λ events e good. closed_fed events e good;
  closed_size = λ events e w good low high. closed_size events e w good low high;
}
  where
    within : (events : List Event) (ended : Bool) → Good q events → closed q events ended ≤ count q events
    within events ended good =
        let shut = closed_is q limits events ended good in
        let all = count_is q limits events good in
        let few = filter_fewer (is_shut events ended) (opened q events) in
        omega arith

    over : (events : List Event) → Good q events → closed q events true ≡ count q events
    over events good =
        closed_is q limits events true good
        ∙ ap length (filter_all (is_shut events true) (opened q events) (All-weaker (InRange q.opening q.length (length events) (last_stamp events)) (λ r. is_shut events true r ≡ true) (λ r own. refl) (opened q events) (all_opened q limits events good).in_range))
        ∙ sym (count_is q limits events good)

    front : (events : List Event) (ended : Bool) (w : ℕ) (x : Window) → IsNumber q events w → (at : At q events w) → numbered_window q events ended w ≡ Some x → (x.closed ≡ true) ↔ (w ≤ closed q events ended)
    front events ended w x number at is =
        let both : Some (window_of events ended at.r) ≡ Some x = sym (at.is ended) ∙ is in
        let same : window_of events ended at.r ≡ x = cc in
        let flag : is_shut events ended at.r ≡ x.closed = ap (λ (z : Window). z.closed) same in
        let shut = closed_is q limits events ended number.good in
        let iff = shut_front events ended (opened q events) (w - 1) at.r (all_opened q limits events number.good).in_order at.opened_as in
        let low = number.low in
        (λ own. let under = iff.0 (flag ∙ own) in omega arith, λ le. sym flag ∙ iff.1 (omega arith))

    closed_fed : (events : List Event) (e : Event) → Good q (events ++ e ∷ []) → closed q events false ≤ closed q (events ++ e ∷ []) false
    closed_fed events e good =
        let fed = good_less q events e good in
        let was = closed_is q limits events false fed.before in
        let now = closed_is q limits (events ++ e ∷ []) false good in
        let split = ap length (ap (filter (is_shut (events ++ e ∷ []) false)) (opened_push q events e) ∙ filter-append (is_shut (events ++ e ∷ []) false) (opened q events) (opening q events e)) in
        let size = length-append (filter (is_shut (events ++ e ∷ []) false) (opened q events)) (filter (is_shut (events ++ e ∷ []) false) (opening q events e)) in
        let more = filter_more (is_shut events false) (is_shut (events ++ e ∷ []) false) (opened q events) (λ r shut. still_shut events e r fed.rises shut) in
        omega arith
      where
        still_shut : (events : List Event) (e : Event) (r : Record) → last_stamp events ≤ stamp e → is_shut events false r ≡ true → is_shut (events ++ e ∷ []) false r ≡ true
        still_shut events e r rise shut =
            let n = length_push events e in
            let t = last_stamp_push events e in
            stays_reached r.limit (length events) (last_stamp events) (length (events ++ e ∷ [])) (last_stamp (events ++ e ∷ [])) (omega arith) (omega arith) shut

    closed_size : (events : List Event) (e : Event) (w : ℕ) → Good q (events ++ e ∷ []) → 1 ≤ w → w ≤ closed q events false → size q (events ++ e ∷ []) w ≡ size q events w
    closed_size events e w good low high =
        let fed = good_less q events e good in
        let most = within events false fed.before in
        let at = at_number q limits events w (is_number q events e w good low (omega arith)) in
        let was = closed_is q limits events false fed.before in
        let shut = (shut_front events false (opened q events) (w - 1) at.r (all_opened q limits events fed.before).in_order at.opened_as).1 (omega arith) in
        let last = last_stays events e at.r fed.rises shut in
        ap size_of (fed_at q limits events e w good low at false) ∙ ap (λ (n : ℕ). n + 1 - at.r.first) last ∙ sym (size_at q events w at)
