-- What closing windows with an event leaves.
use Rattle.std.proofs.Common.{◌≡◌, inl, inr, ℕ, suc, ◌+◌, ◌≤◌, Bool, true, false, List, [], ◌∷◌, ◌++◌, length, map, drop, Some, None, refl, sym, ap, ◌∙◌, arith, zero-add}
use Rattle.std.specs.Prelude.{filter, if◌then◌else◌}
use Rattle.std.specs.List.{All, prefix_len}
use Rattle.std.proofs.lemmas.Bool.{cases_Bool}
use Rattle.std.proofs.lemmas.Bool.Decides.{nat_tests}
use Rattle.std.proofs.lemmas.List.Elements.{All-cons, All-head, All-tail, All-weaker}
use Rattle.sp_plan.specs.declared.event.Event.{Event}
use Rattle.sp_window.specs.declared.record.Limit.{Limit}
use Rattle.sp_window.specs.declared.record.Limit.TheVariants.{AtNumber, AtTime}
use Rattle.sp_window.specs.declared.record.Record.{Record}
use Rattle.sp_window.specs.Limits.{is_reached, last_before, ends_at, settled_front, settled, closed_from}
use Rattle.sp_window.specs.Times.{stamp, last_stamp}
use Rattle.sp_window.specs.Holding.{is_below, last_of, is_shut, record_at}
use Rattle.sp_window.proofs.Lists.{map_same, filter_none, all_both}
use Rattle.sp_window.proofs.Feeding.{last_stamp_push}
use Rattle.sp_window.proofs.Lists.{length_push}
use Rattle.sp_window.proofs.Lasts.{stays_reached, last_stays, last_open, last_closing}
use Rattle.sp_window.proofs.Opened.{IsNoLater, Follows, InOrder}

-- a limit before one that is reached is reached
pub reached_before : (a b : Limit) (n t : ℕ) → IsNoLater a b → is_reached b n t ≡ true → is_reached a n t ≡ true
reached_before (AtNumber a) (AtNumber b) n t le is = grind (arith, nat_tests)
reached_before (AtTime a) (AtTime b) n t le is = grind (arith, nat_tests)
reached_before (AtNumber a) (AtTime b) n t le is = absurd le
reached_before (AtTime a) (AtNumber b) n t le is = absurd le

-- behind a window that is not closed none is
pub none_behind : (events : List Event) (ended : Bool) (r : Record) (rs : List Record) → All (Follows r) rs → is_shut events ended r ≡ false → All (λ s. is_shut events ended s ≡ false) rs
none_behind events true r rs after is = cc
none_behind events false r rs after is = All-weaker (Follows r) (λ s. is_shut events false s ≡ false) (λ s follows. one s follows) rs after
  where
    one : (s : Record) → Follows r s → is_shut events false s ≡ false
    one s follows = elim (cases_Bool (is_shut events false s)) [
      | inl shut ↦ let also = reached_before r.limit s.limit (length events) (last_stamp events) follows.limit shut in absurd (cc)
      | inr free ↦ free
    ]

-- a window that is closed, and one that is not
record_shut : (events : List Event) (ended : Bool) (r : Record) → is_shut events ended r ≡ true → record_at events ended r ≡ ends_at (last_of events r) r
record_shut events ended r is = ap (λ (b : Bool). record r { end = if b then Some (last_of events r) else None }) is

-- and one that is not
record_free : (events : List Event) (ended : Bool) (r : Record) → is_shut events ended r ≡ false → record_at events ended r ≡ record r { end = None }
record_free events ended r is = ap (λ (b : Bool). record r { end = if b then Some (last_of events r) else None }) is

-- what a window keeps with which an event may settle
pub record MaySettle (events : List Event) (e : Event) (r : Record) : Type 0 where
  pub low : r.first ≤ length events + 1
  pub new : r.first ≡ length events + 1 → is_below r.limit (length events + 1, e) ≡ true

module _ (events : List Event) (e : Event) (rise : last_stamp events ≤ stamp e) where
  -- the events with the one more
  abbrev after : List Event
  after = events ++ e ∷ []

  -- whether the limit is reached with the event
  abbrev stops : Record → Bool
  stops r = is_reached r.limit (length events + 1) (stamp e)

  -- a window is closed after the event exactly where its limit is reached with it
  shut_after : (r : Record) → is_shut after false r ≡ stops r
  shut_after r = λ i. is_reached r.limit (length_push events e i) (last_stamp_push events e i)

  -- windows that are closed neither before nor after stay
  settled_free : (rs : List Record) → All (λ r. is_shut events false r ≡ false) rs → All (λ r. is_shut after false r ≡ false) rs → map (record_at events false) rs ≡ map (record_at after false) rs
  settled_free rs before later =
      map_same (record_at events false) (record_at after false) rs
      (All-weaker (λ r. (is_shut events false r ≡ false) × (is_shut after false r ≡ false)) (λ r. record_at events false r ≡ record_at after false r) (λ r both. record_free events false r both.0 ∙ sym (record_free after false r both.1)) rs
      (all_both (λ r. is_shut events false r ≡ false) (λ r. is_shut after false r ≡ false) rs before later))

  -- where none is closed before
  settled_front_is : (rs : List Record) → All (MaySettle events e) rs → InOrder rs → All (λ r. is_shut events false r ≡ false) rs
      → (settled_front (length events + 1) (stamp e) (map (record_at events false) rs) ≡ map (record_at after false) rs)
      × (prefix_len (λ (r : Record). is_reached r.limit (length events + 1) (stamp e)) (map (record_at events false) rs) ≡ length (filter (is_shut after false) rs))
  settled_front_is [] may order free = (refl, refl)
  settled_front_is (r ∷ rs) may order free = elim (cases_Bool (stops r)) [
    | inl stop ↦
        let shut : is_shut after false r ≡ true = shut_after r ∙ stop in
        let own : MaySettle events e r = All-head (MaySettle events e) r rs may in
        let open_yet : is_shut events false r ≡ false = All-head (λ r. is_shut events false r ≡ false) r rs free in
        let rest = settled_front_is rs (All-tail (MaySettle events e) r rs may) order.1 (All-tail (λ r. is_shut events false r ≡ false) r rs free) in
        let last = last_closing events e r own.low own.new open_yet stop in
        let head : ends_at (last_before r.limit (length events + 1)) (record_at events false r) ≡ record_at after false r =
        ap (λ (n : ℕ). ends_at n r) (sym last) ∙ sym (record_shut after false r shut) in
        (rw stop (λ i. head i ∷ rest.0 i), rw (stop, shut) (let tail = rest.1 in omega arith))
    | inr goes ↦
        let free' : is_shut after false r ≡ false = shut_after r ∙ goes in
        let later : All (λ s. is_shut after false s ≡ false) (r ∷ rs) = All-cons (λ s. is_shut after false s ≡ false) r rs free' (none_behind after false r rs order.0 free') in
        (rw goes (settled_free (r ∷ rs) free later), rw goes (sym (ap length (filter_none (is_shut after false) (r ∷ rs) later))))
  ]

  -- closing with an event gives the windows as they are after it, and how many are closed then
  pub settled_is : (rs : List Record) → All (MaySettle events e) rs → InOrder rs
      → (settled (length (filter (is_shut events false) rs)) (length events + 1) (stamp e) (map (record_at events false) rs) ≡ map (record_at after false) rs)
      × (length (filter (is_shut events false) rs) + prefix_len (λ (r : Record). is_reached r.limit (length events + 1) (stamp e)) (drop (length (filter (is_shut events false) rs)) (map (record_at events false) rs)) ≡ length (filter (is_shut after false) rs))
  settled_is [] may order = (refl, refl)
  settled_is (r ∷ rs) may order = elim (cases_Bool (is_shut events false r)) [
    | inl shut ↦
        let rest = settled_is rs (All-tail (MaySettle events e) r rs may) order.1 in
        let still : is_shut after false r ≡ true = shut_after r ∙ stays_reached r.limit (length events) (last_stamp events) (length events + 1) (stamp e) (omega arith) rise shut in
        let last = last_stays events e r rise shut in
        let head : record_at events false r ≡ record_at after false r = record_shut events false r shut ∙ ap (λ (n : ℕ). ends_at n r) (sym last) ∙ sym (record_shut after false r still) in
        let one : filter (is_shut events false) (r ∷ rs) ≡ r ∷ filter (is_shut events false) rs = rw shut refl in
        let grown : length (filter (is_shut after false) (r ∷ rs)) ≡ suc (length (filter (is_shut after false) rs)) = rw still refl in (
          ap (λ (l : List Record). settled (length l) (length events + 1) (stamp e) (map (record_at events false) (r ∷ rs))) one ∙ (λ i. head i ∷ rest.0 i),
          ap (λ (l : List Record). length l + prefix_len (λ (r : Record). is_reached r.limit (length events + 1) (stamp e)) (drop (length l) (map (record_at events false) (r ∷ rs)))) one
              ∙ (let tail = rest.1 in omega arith) ∙ sym grown,
        )
    | inr open_yet ↦
        let free : All (λ s. is_shut events false s ≡ false) (r ∷ rs) = All-cons (λ s. is_shut events false s ≡ false) r rs open_yet (none_behind events false r rs order.0 open_yet) in
        let none : filter (is_shut events false) (r ∷ rs) ≡ [] = filter_none (is_shut events false) (r ∷ rs) free in
        let front = settled_front_is (r ∷ rs) may order free in (
          ap (λ (l : List Record). settled (length l) (length events + 1) (stamp e) (map (record_at events false) (r ∷ rs))) none ∙ front.0,
          ap (λ (l : List Record). length l + prefix_len (λ (r : Record). is_reached r.limit (length events + 1) (stamp e)) (drop (length l) (map (record_at events false) (r ∷ rs)))) none
              ∙ zero-add (prefix_len (λ (r : Record). is_reached r.limit (length events + 1) (stamp e)) (map (record_at events false) (r ∷ rs))) ∙ front.1,
        )
  ]

-- closing all windows at the end gives them as they are then
pub closed_all : (events : List Event) (ended : Bool) (rs : List Record) → All (λ r. r.first ≤ length events) rs → InOrder rs
    → closed_from (length (filter (is_shut events ended) rs)) (length events) (map (record_at events ended) rs) ≡ map (record_at events true) rs
closed_all events true rs low order = ended rs
  where
    ended : (rs : List Record) → closed_from (length (filter (is_shut events true) rs)) (length events) (map (record_at events true) rs) ≡ map (record_at events true) rs
    ended [] = refl
    ended (r ∷ rs) = ap (λ l. record_at events true r ∷ l) (ended rs)
closed_all events false rs low order = going rs low order
  where
    last_is : (r : Record) → r.first ≤ length events → is_shut events false r ≡ false → ends_at (length events) (record_at events false r) ≡ record_at events true r
    last_is r low free = ap (λ (n : ℕ). ends_at n r) (sym (last_open r events low free))

    all_free : (rs : List Record) → All (λ r. r.first ≤ length events) rs → All (λ r. is_shut events false r ≡ false) rs → map (ends_at (length events)) (map (record_at events false) rs) ≡ map (record_at events true) rs
    all_free [] low free = refl
    all_free (r ∷ rs) low free =
        let head = last_is r (All-head (λ r. r.first ≤ length events) r rs low) (All-head (λ r. is_shut events false r ≡ false) r rs free) in
        λ i. head i ∷ all_free rs (All-tail (λ r. r.first ≤ length events) r rs low) (All-tail (λ r. is_shut events false r ≡ false) r rs free) i

    going : (rs : List Record) → All (λ r. r.first ≤ length events) rs → InOrder rs → closed_from (length (filter (is_shut events false) rs)) (length events) (map (record_at events false) rs) ≡ map (record_at events true) rs
    going [] low order = refl
    going (r ∷ rs) low order = elim (cases_Bool (is_shut events false r)) [
      | inl shut ↦
          let one : filter (is_shut events false) (r ∷ rs) ≡ r ∷ filter (is_shut events false) rs = rw shut refl in
          let head : record_at events false r ≡ record_at events true r = record_shut events false r shut in
          ap (λ (l : List Record). closed_from (length l) (length events) (map (record_at events false) (r ∷ rs))) one
          ∙ (λ i. head i ∷ going rs (All-tail (λ r. r.first ≤ length events) r rs low) order.1 i)
      | inr open_yet ↦
          let free : All (λ s. is_shut events false s ≡ false) (r ∷ rs) = All-cons (λ s. is_shut events false s ≡ false) r rs open_yet (none_behind events false r rs order.0 open_yet) in
          let none : filter (is_shut events false) (r ∷ rs) ≡ [] = filter_none (is_shut events false) (r ∷ rs) free in
          ap (λ (l : List Record). closed_from (length l) (length events) (map (record_at events false) (r ∷ rs))) none ∙ all_free (r ∷ rs) low free
    ]
