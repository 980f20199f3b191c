-- The windows of good events in their order: later ones neither begin nor end earlier, nor are they closed before.
use Rattle.std.proofs.Common.{◌≡◌, inl, inr, ℕ, ◌+◌, ◌-◌, ◌%◌, ◌≤◌, Bool, true, false, ◌&&◌, ◌||◌, List, [], ◌∷◌, ◌++◌, length, map, refl, sym, subst, arith}
use Rattle.std.specs.Prelude.{filter, nat_le, ◌==◌}
use Rattle.std.specs.List.{All}
use Rattle.std.proofs.lemmas.Bool.{cases_Bool, cases_lt, eqb-true, or_parts}
use Rattle.std.proofs.lemmas.Bool.Decides.{nat_tests}
use Rattle.std.proofs.lemmas.List.Elements.{All-nil, All-cons, All-head, All-weaker, All-map, filter_passes}
use Rattle.sp_plan.specs.declared.event.Event.{Event}
use Rattle.sp_plan.specs.declared.plan.Plan.{Plan}
use Rattle.sp_plan.specs.declared.plan.Length.{Length}
use Rattle.sp_plan.specs.declared.plan.Opening.{Opening}
use Rattle.sp_plan.specs.declared.plan.Opening.TheVariants.{EveryEvents, EveryTime, When}
use Rattle.sp_plan.specs.Windows.{Numbered, numbered, Window, window_from, windows, windows_by, IsWindowed}
use Rattle.sp_plan.specs.WindowNumbers.{Good}
use Rattle.sp_window.specs.declared.record.Limit.{Limit}
use Rattle.sp_window.specs.declared.record.Limit.TheVariants.{AtNumber, AtTime}
use Rattle.sp_window.specs.declared.record.Record.{Record}
use Rattle.sp_window.specs.Times.{last_stamp}
use Rattle.sp_window.specs.Limits.{is_reached}
use Rattle.sp_window.specs.Openings.{opened}
use Rattle.sp_window.specs.Holding.{is_below, last_of}
use Rattle.sp_window.proofs.Lists.{by_feeding, all_front}
use Rattle.sp_window.proofs.Lasts.{joins, last_joins, last_passes, last_rises, last_within, first_le_last, last_open, reached}
use Rattle.sp_window.proofs.Opened.{IsNoLater, Follows, InOrder, InRange, all_opened}
use Rattle.sp_window.proofs.WindowsAre.{window_of}
use Rattle.sp_window.proofs.SpansAre.{windows_are}
use Rattle.sp_parts.proofs.Opening.{MayCut}

-- a window stands before another
pub record Before (v w : Window) : Type 0 where
  pub first : v.first ≤ w.first
  pub last : v.last ≤ w.last
  pub closed : w.closed ≡ true → v.closed ≡ true

-- each window stands before the later ones
abbrev pub InTurn : List Window → Type 0
InTurn [] = Unit {0}
InTurn (w ∷ ws) = All (Before w) ws × InTurn ws

-- what each window of so many events keeps
pub record Own (n : ℕ) (w : Window) : Type 0 where
  pub low : 1 ≤ w.first
  pub some : w.first ≤ w.last
  pub high : w.last ≤ n
  pub open' : w.closed ≡ false → w.last ≡ n

-- an earlier limit keeps an event out where a later one does not let it in
below_later : (l m : Limit) (y : Numbered) → IsNoLater l m → is_below l y ≡ true → is_below m y ≡ true
below_later (AtNumber a) (AtNumber b) y le is = grind (arith, nat_tests)
below_later (AtTime a) (AtTime b) y le is = grind (arith, nat_tests)
below_later (AtNumber a) (AtTime b) y le is = absurd le
below_later (AtTime a) (AtNumber b) y le is = absurd le

-- and is reached no later
reached_later : (l m : Limit) (fed time : ℕ) → IsNoLater l m → is_reached m fed time ≡ true → is_reached l fed time ≡ true
reached_later (AtNumber a) (AtNumber b) fed time le is = grind (arith, nat_tests)
reached_later (AtTime a) (AtTime b) fed time le is = grind (arith, nat_tests)
reached_later (AtNumber a) (AtTime b) fed time le is = absurd le
reached_later (AtTime a) (AtNumber b) fed time le is = absurd le

-- of two windows the one that stands behind has no earlier last event
last_in_order : (r s : Record) → Follows r s → (events : List Event) → last_of events r ≤ last_of events s
last_in_order r s order = by_feeding (λ l. last_of l r ≤ last_of l s) order.first (λ l e before. more l e before)
  where
    first_joined : (f n : ℕ) (b : Bool) → f ≤ n → b ≡ true → (nat_le f n && b) ≡ true
    first_joined f n b le is = grind (arith, nat_tests)

    second : (f n : ℕ) (b : Bool) → (nat_le f n && b) ≡ true → b ≡ true
    second f n b is = grind (arith, nat_tests)

    more : (l : List Event) (e : Event) → last_of l r ≤ last_of l s → last_of (l ++ e ∷ []) r ≤ last_of (l ++ e ∷ []) s
    more l e before = elim (cases_Bool (joins r (length l + 1, e))) [
      | inl its ↦
          let at = last_joins l e r its in
          elim (cases_lt (length l + 1) s.first) [
            | inl early ↦ let low = first_le_last s (l ++ e ∷ []) in omega arith
            | inr in' ↦
                let below = below_later r.limit s.limit (length l + 1, e) order.limit (second r.first (length l + 1) (is_below r.limit (length l + 1, e)) its) in
                let same = last_joins l e s (first_joined s.first (length l + 1) (is_below s.limit (length l + 1, e)) in' below) in
                omega arith
          ]
      | inr none ↦
          let at = last_passes l e r none in
          let rise = last_rises l e s (last_within s l) in
          omega arith
    ]

module _ (q : Plan) (limits : IsWindowed q) (events : List Event) (ended : Bool) (good : Good q events) where
  -- windows that stand in order as they were opened do so as windows
  follows_before : (r s : Record) → Follows r s → Before (window_of events ended r) (window_of events ended s)
  follows_before r s order = record { first = order.first; last = last_in_order r s order events; closed = λ is. shut ended is }
    where
      shut : (b : Bool) → (b || reached events s) ≡ true → (b || reached events r) ≡ true
      shut true is = refl
      shut false is = reached_later r.limit s.limit (length events) (last_stamp events) order.limit is

  turned : (rs : List Record) → InOrder rs → InTurn (map (window_of events ended) rs)
  turned [] order = tt
  turned (r ∷ rs) order = (
    All-map (Before (window_of events ended r)) (window_of events ended) rs (All-weaker (Follows r) (λ s. Before (window_of events ended r) (window_of events ended s)) (λ s its. follows_before r s its) rs order.0),
    turned rs order.1,
  )

  -- the windows of good events are in turn
  pub in_turn : InTurn (windows q events ended)
  in_turn = subst InTurn (sym (windows_are q limits events ended good)) (turned (opened q events) (all_opened q limits events good).in_order)

  -- and each is one of so many events
  pub all_own : All (Own (length events)) (windows q events ended)
  all_own =
      subst (All (Own (length events))) (sym (windows_are q limits events ended good))
      (All-map (Own (length events)) (window_of events ended) (opened q events)
      (All-weaker (InRange q.opening q.length (length events) (last_stamp events)) (λ r. Own (length events) (window_of events ended r)) (λ r its. one r its) (opened q events) (all_opened q limits events good).in_range))
    where
      one : (r : Record) → InRange q.opening q.length (length events) (last_stamp events) r → Own (length events) (window_of events ended r)
      one r its =
          let high = its.high in
          let most = last_within r events in
          record {
            low = its.low;
            some = first_le_last r events;
            high = omega arith;
            open' = λ free. last_open r events its.high (or_parts ended (reached events r) free).1;
          }

-- in front of a window a list of events may be cut
pub may_cut : (q : Plan) (events : List Event) (ended : Bool) → All (λ w. MayCut q.opening (w.first - 1)) (windows q events ended)
may_cut q events ended = by q.opening q.length
  where
    by : (o : Opening) (l : Length) → All (λ w. MayCut o (w.first - 1)) (windows_by o l events ended)
    by (EveryEvents s) l =
        let opens : Numbered → Bool = λ x. (x.0 - 1) % s == 0 in
        All-map (λ w. MayCut (EveryEvents s) (w.first - 1)) (window_from l events ended) (filter opens (numbered events))
        (All-weaker (λ x. opens x ≡ true) (λ x. MayCut (EveryEvents s) (x.0 - 1)) (λ x is. eqb-true ((x.0 - 1) % s) 0 is) (filter opens (numbered events)) (filter_passes opens (numbered events)))
    by (EveryTime s) l = λ k d low. tt
    by (When p) l = λ k d low. tt

-- the later windows are in turn
pub in_turn_back : (xs ys : List Window) → InTurn (xs ++ ys) → InTurn ys
in_turn_back [] ys turn = turn
in_turn_back (x ∷ xs) ys turn = in_turn_back xs ys turn.1

-- and so are the earlier ones
pub in_turn_front : (xs ys : List Window) → InTurn (xs ++ ys) → InTurn xs
in_turn_front [] ys turn = tt
in_turn_front (x ∷ xs) ys turn = (all_front (Before x) xs ys turn.0, in_turn_front xs ys turn.1)

-- the last one of windows
abbrev pub last_from : Window → List Window → Window
last_from w [] = w
last_from w (v ∷ ws) = last_from v ws

-- no window ends behind the last one
pub ends_low : (w : Window) (ws : List Window) → InTurn (w ∷ ws) → All (λ v. v.last ≤ (last_from w ws).last) (w ∷ ws)
ends_low w [] turn = All-cons (λ v. v.last ≤ w.last) w [] (omega arith) (All-nil (λ v. v.last ≤ w.last))
ends_low w (v ∷ ws) turn =
    let rest = ends_low v ws turn.1 in
    let next = All-head (λ u. u.last ≤ (last_from v ws).last) v ws rest in
    let step = (All-head (Before w) v ws turn.0).last in
    All-cons (λ u. u.last ≤ (last_from v ws).last) w (v ∷ ws) (omega arith) rest

-- where the last one is closed all are
pub closed_low : (w : Window) (ws : List Window) → InTurn (w ∷ ws) → (last_from w ws).closed ≡ true → All (λ v. v.closed ≡ true) (w ∷ ws)
closed_low w [] turn is = All-cons (λ v. v.closed ≡ true) w [] is (All-nil (λ v. v.closed ≡ true))
closed_low w (v ∷ ws) turn is =
    let rest = closed_low v ws turn.1 is in
    All-cons (λ u. u.closed ≡ true) w (v ∷ ws) ((All-head (Before w) v ws turn.0).closed (All-head (λ u. u.closed ≡ true) v ws rest)) rest

-- no window begins in front of the first one
pub begins_high : (w : Window) (ws : List Window) → InTurn (w ∷ ws) → All (λ v. w.first ≤ v.first) (w ∷ ws)
begins_high w ws turn = All-cons (λ v. w.first ≤ v.first) w ws (omega arith) (All-weaker (Before w) (λ v. w.first ≤ v.first) (λ v its. its.first) ws turn.0)
