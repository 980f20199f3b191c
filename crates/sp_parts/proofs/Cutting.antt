-- The windows of a list of events that is cut where no window crosses: those of the events in front, all closed, and those of the
-- events behind, moved on.
use Rattle.std.proofs.Common.{◌≡◌, inl, inr, ℕ, ◌+◌, ◌<◌, ◌≤◌, Bool, true, false, ◌&&◌, ◌||◌, List, [], ◌∷◌, ◌++◌, length, map, Option, Some, None, refl, sym, ap, ◌∙◌, subst, arith, length-append, append_assoc}
use Rattle.std.specs.Prelude.{filter, nat_le, nat_lt}
use Rattle.std.specs.List.{All, enumerate_from, last_or}
use Rattle.std.specs.Option.{option_map}
use Rattle.std.proofs.lemmas.Bool.{cases_Bool}
use Rattle.std.proofs.lemmas.Bool.Decides.{nat_tests}
use Rattle.std.proofs.lemmas.List.{map-append, append-nil}
use Rattle.std.proofs.lemmas.List.Elements.{All-nil, All-cons, All-head, All-tail, All-weaker, All-map, filter-append, filter_agree}
use Rattle.sp_plan.specs.declared.event.Event.{Event}
use Rattle.sp_plan.specs.declared.plan.Plan.{Plan}
use Rattle.sp_plan.specs.Windows.{Numbered, numbered, number_or, Window, windows, IsWindowed}
use Rattle.sp_plan.specs.WindowNumbers.{Good}
use Rattle.sp_window.specs.declared.record.Limit.{Limit}
use Rattle.sp_window.specs.declared.record.Limit.TheVariants.{AtNumber, AtTime}
use Rattle.sp_window.specs.declared.record.Record.{Record}
use Rattle.sp_window.specs.Times.{stamp, last_stamp}
use Rattle.sp_window.specs.Limits.{is_reached}
use Rattle.sp_window.specs.Openings.{opened, opened_from, span_after}
use Rattle.sp_window.specs.Holding.{is_below, last_of}
use Rattle.sp_window.proofs.Lists.{by_feeding, filter_none, map_same, all_front, all_both}
use Rattle.sp_window.proofs.Lasts.{joins, last_joins, last_rises, last_within}
use Rattle.sp_window.proofs.Opened.{InRange, all_opened}
use Rattle.sp_window.proofs.WindowsAre.{window_of}
use Rattle.sp_window.proofs.SpansAre.{windows_are}
use Rattle.sp_parts.proofs.Lists.{map_map, filter_map_is, last_map}
use Rattle.sp_parts.proofs.Moved.{numbered_up}
use Rattle.sp_parts.proofs.Places.{all_unmap, enumerate_append, enumerate_up, numbers_between, good_front, good_back, Crossed, crossed}
use Rattle.sp_parts.proofs.Opening.{limit_up, record_up, MayCut, NoneReaches, opened_append, opened_behind, opened_low}

-- a window moved on
abbrev pub window_up : ℕ → Window → Window
window_up a w = record { first = w.first + a; last = w.last + a; closed = w.closed }

-- numbered events from a number and a time on
abbrev FromOn : ℕ → ℕ → Numbered → Type 0
FromOn n t y = (n ≤ y.0) × (t ≤ stamp y.1)

from_on : (n t : ℕ) (events : List Event) → All (λ e. t ≤ stamp e) events → All (FromOn n t) (enumerate_from n events)
from_on n t [] late = All-nil (FromOn n t)
from_on n t (e ∷ events) late =
    All-cons (FromOn n t) (n, e) (enumerate_from (n + 1) events) (omega arith, All-head (λ e. t ≤ stamp e) e events late)
    (All-weaker (FromOn (n + 1) t) (FromOn n t) (λ y its. let low = its.0 in (omega arith, its.1)) (enumerate_from (n + 1) events) (from_on (n + 1) t events (All-tail (λ e. t ≤ stamp e) e events late)))

-- an event behind one that a limit keeps out is kept out too
out_later : (l : Limit) (n : ℕ) (x : Event) (y : Numbered) → is_below l (n, x) ≡ false → FromOn n (stamp x) y → is_below l y ≡ false
out_later (AtNumber m) n x y out its = let low = its.0 in grind (arith, nat_tests)
out_later (AtTime u) n x y out its = let low = its.1 in grind (arith, nat_tests)

-- a limit that keeps an event out is reached from it on
out_reached : (l : Limit) (n : ℕ) (x : Event) (fed time : ℕ) → is_below l (n, x) ≡ false → n ≤ fed → stamp x ≤ time → is_reached l fed time ≡ true
out_reached (AtNumber m) n x fed time out more late = grind (arith, nat_tests)
out_reached (AtTime u) n x fed time out more late = grind (arith, nat_tests)

-- a limit moved on is reached exactly where it was
reached_up : (l : Limit) (a fed fed' time time' : ℕ) → fed' ≡ a + fed → time' ≡ time → is_reached (limit_up a l) fed' time' ≡ is_reached l fed time
reached_up (AtNumber m) a fed fed' time time' size same = grind (arith, nat_tests)
reached_up (AtTime u) a fed fed' time time' size same = ap (nat_le u) same

-- whether an event joins a window, when both are moved on
joins_up : (a : ℕ) (r : Record) (y : Numbered) → joins (record_up a r) (numbered_up a y) ≡ joins r y
joins_up a r y = λ i. first r.first y.0 i && below r.limit i
  where
    first : (m n : ℕ) → nat_le (m + a) (n + a) ≡ nat_le m n
    first m n = grind (arith, nat_tests)

    below : (l : Limit) → is_below (limit_up a l) (numbered_up a y) ≡ is_below l y
    below (AtNumber m) = less y.0 m
      where
        less : (n m : ℕ) → nat_lt (n + a) (m + a) ≡ nat_lt n m
        less n m = grind (arith, nat_tests)
    below (AtTime u) = refl

-- a test fails where its second part does, and where its first does
second_fails : (a b : Bool) → b ≡ false → (a && b) ≡ false
second_fails true b is = is
second_fails false b is = refl

-- the number of an event that is moved on
number_up : (a n : ℕ) (o : Option Numbered) → number_or (n + a) (option_map (numbered_up a) o) ≡ number_or n o + a
number_up a n None = refl
number_up a n (Some y) = refl

module _ (xs : List Event) (x : Event) (ys : List Event) (c : Crossed xs x ys) where
  -- how many events there are
  all_size : length (xs ++ x ∷ ys) ≡ length xs + length (x ∷ ys)
  all_size = length-append xs (x ∷ ys)

  -- a window that ends in front of the cut is the same without the events behind it, and closed
  kept_in_front : (ended : Bool) (r : Record) → is_below r.limit (length xs + 1, x) ≡ false → window_of (xs ++ x ∷ ys) ended r ≡ window_of xs true r
  kept_in_front ended r out =
      let n = length xs + 1 in
      let at : 1 + length xs ≡ n = omega arith in
      let split : numbered (xs ++ x ∷ ys) ≡ numbered xs ++ enumerate_from n (x ∷ ys) = enumerate_append 1 xs (x ∷ ys) ∙ ap (λ (k : ℕ). numbered xs ++ enumerate_from k (x ∷ ys)) at in
      let none : filter (joins r) (enumerate_from n (x ∷ ys)) ≡ [] =
      filter_none (joins r) (enumerate_from n (x ∷ ys))
      (All-weaker (FromOn n (stamp x)) (λ y. joins r y ≡ false) (λ y its. second_fails (nat_le r.first y.0) (is_below r.limit y) (out_later r.limit n x y out its)) (enumerate_from n (x ∷ ys)) (from_on n (stamp x) (x ∷ ys) c.later)) in
      let members : filter (joins r) (numbered (xs ++ x ∷ ys)) ≡ filter (joins r) (numbered xs) =
      ap (filter (joins r)) split ∙ filter-append (joins r) (numbered xs) (enumerate_from n (x ∷ ys)) ∙ ap (λ (l : List Numbered). filter (joins r) (numbered xs) ++ l) none ∙ append-nil (filter (joins r) (numbered xs)) in
      let size = all_size in
      let past = out_reached r.limit n x (length (xs ++ x ∷ ys)) (last_stamp (xs ++ x ∷ ys)) out (omega arith) c.end in
      λ i. record { first = r.first; last = number_or r.first (last_or None (members i)); closed = (ap (λ (b : Bool). ended || b) past ∙ shut ended) i }
    where
      shut : (b : Bool) → (b || true) ≡ true
      shut true = refl
      shut false = refl

  -- a window of the events behind the cut, moved on
  moved_behind : (ended : Bool) (r : Record) → 1 ≤ r.first → window_of (xs ++ x ∷ ys) ended (record_up (length xs) r) ≡ window_up (length xs) (window_of (x ∷ ys) ended r)
  moved_behind ended r low =
      let a = length xs in
      let own = record_up a r in
      let split : numbered (xs ++ x ∷ ys) ≡ numbered xs ++ map (numbered_up a) (numbered (x ∷ ys)) = enumerate_append 1 xs (x ∷ ys) ∙ ap (λ (l : List Numbered). numbered xs ++ l) (enumerate_up a 1 (x ∷ ys)) in
      let none : filter (joins own) (numbered xs) ≡ [] =
      filter_none (joins own) (numbered xs)
      (All-weaker (λ (y : Numbered). (1 ≤ y.0) × (y.0 < 1 + a)) (λ y. joins own y ≡ false) (λ y its. early r.first y.0 (is_below own.limit y) low its.1) (numbered xs) (numbers_between 1 xs)) in
      let behind : filter (joins own) (map (numbered_up a) (numbered (x ∷ ys))) ≡ map (numbered_up a) (filter (joins r) (numbered (x ∷ ys))) =
      filter_map_is (numbered_up a) (joins own) (numbered (x ∷ ys)) ∙ ap (map (numbered_up a)) (filter_agree (λ y. joins own (numbered_up a y)) (joins r) (joins_up a r) (numbered (x ∷ ys))) in
      let members : filter (joins own) (numbered (xs ++ x ∷ ys)) ≡ map (numbered_up a) (filter (joins r) (numbered (x ∷ ys))) =
      ap (filter (joins own)) split ∙ filter-append (joins own) (numbered xs) (map (numbered_up a) (numbered (x ∷ ys))) ∙ (λ i. none i ++ behind i) in
      let last : number_or (r.first + a) (last_or None (filter (joins own) (numbered (xs ++ x ∷ ys)))) ≡ number_or r.first (last_or None (filter (joins r) (numbered (x ∷ ys)))) + a =
      ap (λ (l : List Numbered). number_or (r.first + a) (last_or None l)) members
      ∙ ap (number_or (r.first + a)) (last_map (numbered_up a) None (filter (joins r) (numbered (x ∷ ys))))
      ∙ number_up a r.first (last_or None (filter (joins r) (numbered (x ∷ ys)))) in
      let past = reached_up r.limit a (length (x ∷ ys)) (length (xs ++ x ∷ ys)) (last_stamp (x ∷ ys)) (last_stamp (xs ++ x ∷ ys)) all_size c.same_end in
      λ i. record { first = r.first + a; last = last i; closed = ended || past i }
    where
      early : (f n : ℕ) (b : Bool) → 1 ≤ f → n < 1 + length xs → (nat_le (f + length xs) n && b) ≡ false
      early f n b low high = grind (arith, nat_tests)

-- no window that begins among the first a events goes on behind them
abbrev pub NoneCrosses : ℕ → List Window → Type 0
NoneCrosses a ws = All (λ w. w.first ≤ a → w.last ≤ a) ws

module _ (q : Plan) (limits : IsWindowed q) (xs : List Event) (x : Event) (ys : List Event) (good : Good q (xs ++ x ∷ ys)) where
  crossing : Crossed xs x ys
  crossing = crossed q xs x ys good

  front_good : Good q xs
  front_good = good_front q xs (x ∷ ys) good

  -- the windows that open behind the cut
  abbrev behind : List Record
  behind = opened_from q.opening q.length (1 + length xs) (span_after q.opening 0 xs) (x ∷ ys)

  -- the last event of a window that has the event behind the cut is no earlier
  has_it : (r : Record) → joins r (length xs + 1, x) ≡ true → length xs + 1 ≤ last_of (xs ++ x ∷ ys) r
  has_it r its =
      let first = last_joins xs x r its in
      let same : (xs ++ x ∷ []) ++ ys ≡ xs ++ x ∷ ys = append_assoc xs (x ∷ []) ys in
      let more = by_feeding (λ l. length xs + 1 ≤ last_of ((xs ++ x ∷ []) ++ l) r) (start first) (λ l e before. step l e before) ys in
      subst (λ (l : List Event). length xs + 1 ≤ last_of l r) same more
    where
      start : last_of (xs ++ x ∷ []) r ≡ length xs + 1 → length xs + 1 ≤ last_of ((xs ++ x ∷ []) ++ []) r
      start is = let same = ap (λ (l : List Event). last_of l r) (append-nil (xs ++ x ∷ [])) in omega arith

      step : (l : List Event) (e : Event) → length xs + 1 ≤ last_of ((xs ++ x ∷ []) ++ l) r → length xs + 1 ≤ last_of ((xs ++ x ∷ []) ++ (l ++ e ∷ [])) r
      step l e before =
          let all = (xs ++ x ∷ []) ++ l in
          let same = ap (λ (l : List Event). last_of l r) (append_assoc (xs ++ x ∷ []) l (e ∷ [])) in
          let rise = last_rises all e r (last_within r all) in
          omega arith

  -- where no window crosses the cut, no limit of one in front lets the event behind it in
  none_reaches : (ended : Bool) → NoneCrosses (length xs) (windows q (xs ++ x ∷ ys) ended) → NoneReaches (opened q xs) (length xs + 1) x
  none_reaches ended none =
      let all = subst (NoneCrosses (length xs)) (windows_are q limits (xs ++ x ∷ ys) ended good ∙ ap (map (window_of (xs ++ x ∷ ys) ended)) (opened_append q.opening q.length 1 0 xs (x ∷ ys))) none in
      let front = all_front (λ r. r.first ≤ length xs → last_of (xs ++ x ∷ ys) r ≤ length xs) (opened q xs) behind (all_unmap (λ w. w.first ≤ length xs → w.last ≤ length xs) (window_of (xs ++ x ∷ ys) ended) (opened q xs ++ behind) all) in
      let range = (all_opened q limits xs front_good).in_range in
      All-weaker (λ r. InRange q.opening q.length (length xs) (last_stamp xs) r × (r.first ≤ length xs → last_of (xs ++ x ∷ ys) r ≤ length xs)) (λ r. is_below r.limit (length xs + 1, x) ≡ false)
      (λ r its. out r its.0.high its.1) (opened q xs)
      (all_both (InRange q.opening q.length (length xs) (last_stamp xs)) (λ r. r.first ≤ length xs → last_of (xs ++ x ∷ ys) r ≤ length xs) (opened q xs) range front)
    where
      joined : (f n : ℕ) (b : Bool) → f ≤ n → b ≡ true → (nat_le f n && b) ≡ true
      joined f n b le is = grind (arith, nat_tests)

      out : (r : Record) → r.first ≤ length xs → (r.first ≤ length xs → last_of (xs ++ x ∷ ys) r ≤ length xs) → is_below r.limit (length xs + 1, x) ≡ false
      out r low ends = elim (cases_Bool (is_below r.limit (length xs + 1, x))) [
        | inl below ↦
            let high = has_it r (joined r.first (length xs + 1) (is_below r.limit (length xs + 1, x)) (omega arith) below) in
            let end = ends low in
            absurd (omega arith)
        | inr above ↦ above
      ]

  -- the windows in front of the cut, and those behind it as they were opened
  in_two : (ended : Bool) → NoneCrosses (length xs) (windows q (xs ++ x ∷ ys) ended) → windows q (xs ++ x ∷ ys) ended ≡ windows q xs true ++ map (window_of (xs ++ x ∷ ys) ended) behind
  in_two ended none =
      let all = xs ++ x ∷ ys in
      windows_are q limits all ended good ∙ ap (map (window_of all ended)) (opened_append q.opening q.length 1 0 xs (x ∷ ys)) ∙ map-append (window_of all ended) (opened q xs) behind
      ∙ ap (λ (l : List Window). l ++ map (window_of all ended) behind)
      (map_same (window_of all ended) (window_of xs true) (opened q xs)
      (All-weaker (λ r. is_below r.limit (length xs + 1, x) ≡ false) (λ r. window_of all ended r ≡ window_of xs true r) (λ r out. kept_in_front xs x ys crossing ended r out) (opened q xs) (none_reaches ended none))
      ∙ sym (windows_are q limits xs true front_good))

  -- the windows in front of a cut that none crosses, and others that begin behind it
  pub cut_front : (ended : Bool) → NoneCrosses (length xs) (windows q (xs ++ x ∷ ys) ended)
      → (later : List Window) × (windows q (xs ++ x ∷ ys) ended ≡ windows q xs true ++ later) × All (λ w. length xs < w.first) later
  cut_front ended none = (
    map (window_of (xs ++ x ∷ ys) ended) behind,
    in_two ended none,
    All-map (λ w. length xs < w.first) (window_of (xs ++ x ∷ ys) ended) behind
        (All-weaker (λ r. 1 + length xs ≤ r.first) (λ r. length xs < r.first) (λ r low. omega arith) behind (opened_low q.opening q.length (1 + length xs) (span_after q.opening 0 xs) (x ∷ ys))),
  )

  -- and where a step goes on behind it as from the first event, these are the windows of the events behind it
  pub cut_both : (ended : Bool) → MayCut q.opening (length xs) → NoneCrosses (length xs) (windows q (xs ++ x ∷ ys) ended)
      → windows q (xs ++ x ∷ ys) ended ≡ windows q xs true ++ map (window_up (length xs)) (windows q (x ∷ ys) ended)
  cut_both ended cut none =
      let all = xs ++ x ∷ ys in
      let own = opened q (x ∷ ys) in
      in_two ended none
      ∙ ap (λ (l : List Window). windows q xs true ++ l)
      (ap (map (window_of all ended)) (opened_behind q limits xs x ys front_good crossing.before cut (none_reaches ended none))
      ∙ map_map (record_up (length xs)) (window_of all ended) own
      ∙ map_same (λ r. window_of all ended (record_up (length xs) r)) (λ r. window_up (length xs) (window_of (x ∷ ys) ended r)) own
      (All-weaker (λ r. 1 ≤ r.first) (λ r. window_of all ended (record_up (length xs) r) ≡ window_up (length xs) (window_of (x ∷ ys) ended r)) (λ r low. moved_behind xs x ys crossing ended r low) own (opened_low q.opening q.length 1 0 (x ∷ ys)))
      ∙ sym (map_map (window_of (x ∷ ys) ended) (window_up (length xs)) own)
      ∙ ap (map (window_up (length xs))) (sym (windows_are q limits (x ∷ ys) ended (good_back q xs (x ∷ ys) good))))
