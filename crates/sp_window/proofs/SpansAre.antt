-- The windows of spans of time are those that the events open.
use Rattle.std.proofs.Common.{◌≡◌, inl, inr, ℕ, ℤ, pos, zero, suc, ◌+◌, ◌-◌, ◌*◌, ◌/◌, ◌%◌, ◌<◌, ◌≤◌, ◌+ℤ◌, ◌*ℤ◌, Bool, true, false, ◌&&◌, ◌||◌, List, [], ◌∷◌, ◌++◌, length, map, Option, Some, None, refl, sym, ap, ◌∙◌, arith}
use Rattle.std.specs.Prelude.{filter, find, nat_le, nat_lt, int_le, int_lt, unsigned_abs, ◌==◌, if◌then◌else◌}
use Rattle.std.specs.List.{All, range_with_len, filter_map, cons_option, list_any, last_or}
use Rattle.std.specs.Option.{option_map}
use Rattle.std.proofs.lemmas.Bool.{cases_Bool, cases_lt}
use Rattle.std.proofs.lemmas.Bool.Decides.{nat_tests}
use Rattle.std.proofs.lemmas.List.{append-nil}
use Rattle.std.proofs.lemmas.List.Elements.{All-head, All-tail, All-weaker, filter-append, filter_map-append}
use Rattle.std.proofs.Math.Nat.{div-mul-le_self, le-div_iff_mul-le}
use Rattle.sp_plan.specs.declared.event.Event.{Event}
use Rattle.sp_plan.specs.declared.plan.Plan.{Plan}
use Rattle.sp_plan.specs.declared.plan.Length.{Length}
use Rattle.sp_plan.specs.declared.plan.Length.TheVariants.{Events, Time}
use Rattle.sp_plan.specs.declared.plan.Opening.{Opening}
use Rattle.sp_plan.specs.declared.plan.Opening.TheVariants.{EveryEvents, EveryTime, When}
use Rattle.sp_plan.specs.Values.{holds}
use Rattle.sp_plan.specs.Windows.{Numbered, numbered, number_or, Window, window_within, within, windows_by, windows, IsWindowed, IsLength, IsOpening, spans, time_or}
use Rattle.sp_plan.specs.WindowNumbers.{Good}
use Rattle.sp_window.specs.declared.record.Limit.TheVariants.{AtTime}
use Rattle.sp_window.specs.declared.record.Record.{Record}
use Rattle.sp_window.specs.Times.{stamp, last_stamp}
use Rattle.sp_window.specs.Openings.{open_at, goes_on, opening_by, opened_from, opened, span_after}
use Rattle.sp_window.proofs.Lists.{by_feeding, last_or-push, filter_same, filter_none, range_within, length_push}
use Rattle.sp_window.proofs.Feeding.{InTime, Fed, good_less, last_stamp_push}
use Rattle.sp_window.proofs.Lasts.{numbered_push}
use Rattle.sp_window.proofs.Spans.{begins_by}
use Rattle.sp_window.proofs.Opened.{opened_from_push, span_after_push, abs_above}
use Rattle.sp_window.proofs.WindowsAre.{window_of, all_numbered, timed, late_is, early_is, any_late, abs_is, inside, rising, span_members, windows_one_by_one}

-- the first event of a span opens its window
abbrev first_open : ℕ → ℕ → List Event → ℕ → Option Record
first_open step size events k = option_map (λ (x : Numbered). open_at x.0 (AtTime (k * step + size))) (find (λ _. true) (filter (inside (k * step) (k * step + size)) (numbered events)))

-- a multiple of a step, as a number
product_is : (k : ℕ) (s : ℤ) (n : ℕ) → s ≡ pos n → (pos k *ℤ s) ≡ pos (k * n)
product_is k s n is = ap (λ (z : ℤ). pos k *ℤ z) is

-- the events of a span, by numbers
within_is : (q : Plan) (events : List Event) (from until : ℤ) (a b : ℕ) → Good q events → from ≡ pos a → until ≡ pos b → within from until events ≡ filter (inside a b) (numbered events)
within_is q events from until a b good low high =
    filter_same (λ (y : Numbered). int_le from y.1.time && int_lt y.1.time until) (inside a b) (numbered events)
    (All-weaker (λ (y : Numbered). InTime y.1) (λ (y : Numbered). (int_le from y.1.time && int_lt y.1.time until) ≡ inside a b y)
    (λ y its. λ i. (ap (λ (z : ℤ). int_le z y.1.time) low ∙ late_is a y.1.time (stamp y.1) its.is) i && (ap (λ (z : ℤ). int_lt y.1.time z) high ∙ early_is b y.1.time (stamp y.1) its.is) i) (numbered events) (timed q events good))

-- the window of a span is the one that its first event opens
span_is : (q : Plan) (events : List Event) (ended : Bool) (from until : ℤ) (step size k : ℕ) → Good q events → 0 < size → from ≡ pos (k * step) → until ≡ pos (k * step + size)
    → window_within from until events ended ≡ option_map (window_of events ended) (first_open step size events k)
span_is q events ended from until step size k good some low high = by (within from until events) refl
  where
    members : within from until events ≡ filter (inside (k * step) (k * step + size)) (numbered events)
    members = within_is q events from until (k * step) (k * step + size) good low high

    past : list_any (λ (y : Numbered). int_le until y.1.time) (numbered events) ≡ nat_le (k * step + size) (last_stamp events)
    past = ap (λ (z : ℤ). list_any (λ (y : Numbered). int_le z y.1.time) (numbered events)) high ∙ any_late q (k * step + size) (omega arith) events good

    by : (own : List Numbered) → within from until events ≡ own → option_map (λ (x : Numbered). let w : Window = record { first = x.0; last = number_or x.0 (last_or None own); closed = ended || list_any (λ (y : Numbered). int_le until y.1.time) (numbered events) } in w) (find (λ _. true) own)
        ≡ option_map (window_of events ended) (first_open step size events k)
    by [] is = ap (λ (l : List Numbered). option_map (window_of events ended) (option_map (λ (x : Numbered). open_at x.0 (AtTime (k * step + size))) (find (λ _. true) l))) (sym is ∙ members)
    by (x ∷ rest) is =
        let found : filter (inside (k * step) (k * step + size)) (numbered events) ≡ x ∷ rest = sym members ∙ is in
        let same = span_members (k * step) (k * step + size) 1 events x rest (rising q events good).up found in
        let one : Window = window_of events ended (open_at x.0 (AtTime (k * step + size))) in
        let here : Some one ≡ option_map (window_of events ended) (first_open step size events k) =
        ap (λ (l : List Numbered). option_map (window_of events ended) (option_map (λ (x : Numbered). open_at x.0 (AtTime (k * step + size))) (find (λ _. true) l))) (sym found) in
        (λ i. Some (record { first = x.0; last = number_or x.0 (last_or None (sym same i)); closed = ended || past i })) ∙ here

-- functions that agree at each item
filter_map_same : {X Y : Type 0} (f g : X → Option Y) (xs : List X) → All (λ x. f x ≡ g x) xs → filter_map f xs ≡ filter_map g xs
filter_map_same f g [] agree = refl
filter_map_same f g (x ∷ xs) agree = λ i. cons_option (All-head (λ x. f x ≡ g x) x xs agree i) (filter_map_same f g xs (All-tail (λ x. f x ≡ g x) x xs agree) i)

-- functions that give nothing
filter_map_none : {X Y : Type 0} (f : X → Option Y) (xs : List X) → All (λ x. f x ≡ None) xs → filter_map f xs ≡ []
filter_map_none f [] none = refl
filter_map_none f (x ∷ xs) none = let here : f x ≡ None = All-head (λ x. f x ≡ None) x xs none in rw here (filter_map_none f xs (All-tail (λ x. f x ≡ None) x xs none))

-- each that is there, seen otherwise
filter_map_map : {X Y Z : Type 0} (f : X → Option Y) (g : Y → Z) (xs : List X) → filter_map (λ x. option_map g (f x)) xs ≡ map g (filter_map f xs)
filter_map_map f g [] = refl
filter_map_map {X} {Y} {Z} f g (x ∷ xs) = by (f x) (filter_map_map f g xs)
  where
    by : (o : Option Y) → filter_map (λ x. option_map g (f x)) xs ≡ map g (filter_map f xs) → cons_option (option_map g o) (filter_map (λ x. option_map g (f x)) xs) ≡ map g (cons_option o (filter_map f xs))
    by None rest = rest
    by (Some y) rest = ap (λ l. g y ∷ l) rest

-- those that pass, seen otherwise
filter_map_cond : {X Y : Type 0} (p : X → Bool) (g : X → Y) (xs : List X) → filter_map (λ x. if p x then Some (g x) else None) xs ≡ map g (filter p xs)
filter_map_cond p g [] = refl
filter_map_cond p g (x ∷ xs) = elim (cases_Bool (p x)) [ inl keeps ↦ rw keeps (ap (λ l. g x ∷ l) (filter_map_cond p g xs)) | inr drops ↦ rw drops (filter_map_cond p g xs) ]

-- a range in two parts
range_append : (a m n : ℕ) → range_with_len a (m + n) ≡ range_with_len a m ++ range_with_len (a + m) n
range_append a zero n = let size : 0 + n ≡ n = omega arith in let at : a ≡ a + 0 = omega arith in (λ i. range_with_len (at i) (size i))
range_append a (suc m) n =
    let size : suc m + n ≡ suc (m + n) = omega arith in
    let at : a + 1 + m ≡ a + suc m = omega arith in
    ap (range_with_len a) size ∙ ap (λ l. a ∷ l) (range_append (a + 1) m n ∙ ap (λ (b : ℕ). range_with_len (a + 1) m ++ range_with_len b n) at)

-- a list with one more item is not empty
some_item : {X : Type 0} (xs : List X) (x : X) → xs ++ x ∷ [] ≡ [] → ⊥
some_item [] x is = cc
some_item (y ∷ xs) x is = cc

-- the events of a span
abbrev own : ℕ → ℕ → ℕ → List Event → List Numbered
own step size k events = filter (inside (k * step) (k * step + size)) (numbered events)

module _ (step size : ℕ) (above : 0 < step) where
  -- the events of a span, with one more or without
  own_push : (k : ℕ) (events : List Event) (e : Event) (b : Bool) → inside (k * step) (k * step + size) (length events + 1, e) ≡ b
      → own step size k (events ++ e ∷ []) ≡ own step size k events ++ (if b then (length events + 1, e) ∷ [] else [])
  own_push k events e b is =
      ap (filter (inside (k * step) (k * step + size))) (numbered_push events e)
      ∙ filter-append (inside (k * step) (k * step + size)) (numbered events) ((length events + 1, e) ∷ [])
      ∙ ap (λ (b : Bool). own step size k events ++ (if b then (length events + 1, e) ∷ [] else [])) is

  -- a span at whose beginning or behind it the last event is has an event if that one is within
  span_has : (k : ℕ) (events : List Event) → own step size k events ≡ [] → k * step ≤ last_stamp events → last_stamp events < k * step + size → length events ≡ 0
  span_has k = by_feeding (λ l. own step size k l ≡ [] → k * step ≤ last_stamp l → last_stamp l < k * step + size → length l ≡ 0) (λ none low high. refl) (λ l e before none low high. absurd (more l e none low high))
    where
      more : (l : List Event) (e : Event) → own step size k (l ++ e ∷ []) ≡ [] → k * step ≤ last_stamp (l ++ e ∷ []) → last_stamp (l ++ e ∷ []) < k * step + size → ⊥
      more l e none low high =
          let at = last_stamp_push l e in
          let early : k * step ≤ stamp e = omega arith in
          let late : stamp e < k * step + size = omega arith in
          let test : inside (k * step) (k * step + size) (length l + 1, e) ≡ true = grind (arith, nat_tests) in
          some_item (own step size k l) (length l + 1, e) (sym (own_push k l e true test) ∙ none)

  module _ (s : ℤ) (step_is : step ≡ unsigned_abs s) where
    abbrev ahead : List Event → ℕ
    ahead events = span_after (EveryTime s) 0 events

    ahead_push : (events : List Event) (e : Event) → ahead (events ++ e ∷ []) ≡ stamp e / step + 1
    ahead_push events e = span_after_push (EveryTime s) 0 events e ∙ ap (λ (n : ℕ). stamp e / n + 1) (sym step_is)

    -- a span that began before has its beginning no later than the last event
    began : (k : ℕ) (events : List Event) → k < ahead events → (k * step ≤ last_stamp events) × (0 < length events)
    began k = by_feeding (λ l. k < ahead l → (k * step ≤ last_stamp l) × (0 < length l)) (λ low. absurd (omega arith)) (λ l e before low. more l e low)
      where
        more : (l : List Event) (e : Event) → k < ahead (l ++ e ∷ []) → (k * step ≤ last_stamp (l ++ e ∷ [])) × (0 < length (l ++ e ∷ []))
        more l e low =
            let next = ahead_push l e in
            let at = last_stamp_push l e in
            let size = length_push l e in
            let product = begins_by step (stamp e) k above (omega arith) in
            (omega arith, omega arith)

    -- and one that did not has no event
    not_begun : (q : Plan) (k : ℕ) (events : List Event) → Good q events → ahead events ≤ k → own step size k events ≡ []
    not_begun q k = by_feeding (λ l. Good q l → ahead l ≤ k → own step size k l ≡ []) (λ good low. refl) (λ l e before good low. more l e good low)
      where
        early : (t : ℕ) → t < k * step → (nat_le (k * step) t && nat_lt t (k * step + size)) ≡ false
        early t low = grind (arith, nat_tests)

        more : (l : List Event) (e : Event) → Good q (l ++ e ∷ []) → ahead (l ++ e ∷ []) ≤ k → own step size k (l ++ e ∷ []) ≡ []
        more l e good low =
            let next = ahead_push l e in
            let at = last_stamp_push l e in
            let late : stamp e < k * step = elim (cases_lt (stamp e) (k * step)) [ inl below ↦ below | inr high ↦ let n : k ≤ stamp e / step = (le-div_iff_mul-le {k = step} {x = k} {y = stamp e} above).1 high in absurd (omega arith) ] in
            filter_none (inside (k * step) (k * step + size)) (numbered (l ++ e ∷ []))
            (all_numbered (λ y. inside (k * step) (k * step + size) (0, y) ≡ false) 1 (l ++ e ∷ [])
            (All-weaker (λ y. stamp y ≤ last_stamp (l ++ e ∷ [])) (λ y. inside (k * step) (k * step + size) (0, y) ≡ false) (λ y le. early (stamp y) (omega arith)) (l ++ e ∷ []) (rising q (l ++ e ∷ []) good).low))

    -- the first event of a span that began stays
    same_first : (q : Plan) (k : ℕ) (events : List Event) (e : Event) → Fed q events e → k < ahead events → first_open step size (events ++ e ∷ []) k ≡ first_open step size events k
    same_first q k events e fed low = by (inside (k * step) (k * step + size) (length events + 1, e)) (own step size k events) refl refl
      where
        tested : (t : ℕ) → (nat_le (k * step) t && nat_lt t (k * step + size)) ≡ true → t < k * step + size
        tested t is = grind (arith, nat_tests)

        by : (b : Bool) (l : List Numbered) → inside (k * step) (k * step + size) (length events + 1, e) ≡ b → own step size k events ≡ l → first_open step size (events ++ e ∷ []) k ≡ first_open step size events k
        by false l test is =
            ap (λ (l : List Numbered). option_map (λ (x : Numbered). open_at x.0 (AtTime (k * step + size))) (find (λ _. true) l)) (own_push k events e false test ∙ append-nil (own step size k events))
        by true [] test is =
            let facts = began k events low in
            let rise = fed.rises in
            let high : stamp e < k * step + size = tested (stamp e) test in
            let none = span_has k events is facts.0 (omega arith) in
            let some = facts.1 in
            absurd (omega arith)
        by true (x ∷ l) test is =
            ap (λ (l : List Numbered). option_map (λ (x : Numbered). open_at x.0 (AtTime (k * step + size))) (find (λ _. true) l)) (own_push k events e true test ∙ ap (λ (l : List Numbered). l ++ (length events + 1, e) ∷ []) is)
            ∙ sym (ap (λ (l : List Numbered). option_map (λ (x : Numbered). open_at x.0 (AtTime (k * step + size))) (find (λ _. true) l)) is)

    -- the windows that an event opens
    new_first : (q : Plan) (k : ℕ) (events : List Event) (e : Event) → Fed q events e → ahead events ≤ k → k * step ≤ stamp e
        → first_open step size (events ++ e ∷ []) k ≡ (if goes_on step size (stamp e) k then Some (open_at (length events + 1) (AtTime (k * step + size))) else None)
    new_first q k events e fed low begins =
        let none = not_begun q k events fed.before low in
        let b = goes_on step size (stamp e) k in
        let at : nat_le (k * step) (stamp e) ≡ true = grind (arith, nat_tests) in
        let test : inside (k * step) (k * step + size) (length events + 1, e) ≡ b = rw at refl in
        ap (λ (l : List Numbered). option_map (λ (x : Numbered). open_at x.0 (AtTime (k * step + size))) (find (λ _. true) l)) (own_push k events e b test ∙ ap (λ (l : List Numbered). l ++ (if b then (length events + 1, e) ∷ [] else [])) none)
        ∙ both b
      where
        both : (b : Bool) → option_map (λ (x : Numbered). open_at x.0 (AtTime (k * step + size))) (find (λ _. true) ([] ++ (if b then (length events + 1, e) ∷ [] else []))) ≡ (if b then Some (open_at (length events + 1) (AtTime (k * step + size))) else None)
        both true = refl
        both false = refl

-- no span after the events so far begins later than the next one
ahead_low : (s : ℤ) (step : ℕ) → 0 < step → step ≡ unsigned_abs s → (events : List Event) (e : Event) → last_stamp events ≤ stamp e → span_after (EveryTime s) 0 events ≤ stamp e / step + 1
ahead_low s step above step_is = by_feeding (λ l. (e : Event) → last_stamp l ≤ stamp e → span_after (EveryTime s) 0 l ≤ stamp e / step + 1) (λ e rise. omega arith) (λ l x before e rise. more l x e rise)
  where
    more : (l : List Event) (x e : Event) → last_stamp (l ++ x ∷ []) ≤ stamp e → span_after (EveryTime s) 0 (l ++ x ∷ []) ≤ stamp e / step + 1
    more l x e rise =
        let next = ahead_push step 0 above s step_is l x in
        let at = last_stamp_push l x in
        let low : stamp x / step * step ≤ stamp x = div-mul-le_self (stamp x) step in
        let n : stamp x / step ≤ stamp e / step = (le-div_iff_mul-le {k = step} {x = stamp x / step} {y = stamp e} above).1 (omega arith) in
        omega arith

module _ (q : Plan) (s d : ℤ) (step size : ℕ) (above : 0 < step) (long : 0 < size) (step_is : step ≡ unsigned_abs s) (size_is : size ≡ unsigned_abs d) where
  -- the windows that the next event opens
  new_windows : (events : List Event) (e : Event) → Fed q events e → (n : ℕ) → n ≡ length events + 1
      → filter_map (first_open step size (events ++ e ∷ [])) (range_with_len (span_after (EveryTime s) 0 events) (stamp e / step + 1 - span_after (EveryTime s) 0 events)) ≡ opening_by (EveryTime s) (Time d) n (span_after (EveryTime s) 0 events) e
  new_windows events e fed n at =
      let m = span_after (EveryTime s) 0 events in
      let count = stamp e / step + 1 - m in
      let f = first_open step size (events ++ e ∷ []) in
      let g : ℕ → Option Record = λ k. if goes_on step size (stamp e) k then Some (open_at (length events + 1) (AtTime (k * step + size))) else None in
      let agree : All (λ k. f k ≡ g k) (range_with_len m count) =
      All-weaker (λ k. (m ≤ k) × (k < m + count)) (λ k. f k ≡ g k) (λ k its. new_first step size above s step_is q k events e fed its.0 (begins_by step (stamp e) k above (let low = its.0 in let high = its.1 in omega arith))) (range_with_len m count) (range_within m count) in
      filter_map_same f g (range_with_len m count) agree
      ∙ filter_map_cond (goes_on step size (stamp e)) (λ k. open_at (length events + 1) (AtTime (k * step + size))) (range_with_len m count)
      ∙ (λ i. map (λ k. open_at (sym at i) (AtTime (k * step_is i + size_is i))) (filter (goes_on (step_is i) (size_is i) (stamp e)) (range_with_len m (stamp e / step_is i + 1 - m))))

  -- the first events of the spans that began are those of the windows that were opened
  spans_opened : (events : List Event) → Good q events → filter_map (first_open step size events) (range_with_len 0 (span_after (EveryTime s) 0 events)) ≡ opened_from (EveryTime s) (Time d) 1 0 events
  spans_opened = by_feeding (λ l. Good q l → filter_map (first_open step size l) (range_with_len 0 (span_after (EveryTime s) 0 l)) ≡ opened_from (EveryTime s) (Time d) 1 0 l) (λ good. refl) (λ l e before good. more l e before (good_less q l e good))
    where
      more : (l : List Event) (e : Event) → (Good q l → filter_map (first_open step size l) (range_with_len 0 (span_after (EveryTime s) 0 l)) ≡ opened_from (EveryTime s) (Time d) 1 0 l)
          → Fed q l e → filter_map (first_open step size (l ++ e ∷ [])) (range_with_len 0 (span_after (EveryTime s) 0 (l ++ e ∷ []))) ≡ opened_from (EveryTime s) (Time d) 1 0 (l ++ e ∷ [])
      more l e before fed =
          let m = span_after (EveryTime s) 0 l in
          let count = stamp e / step + 1 - m in
          let f = first_open step size (l ++ e ∷ []) in
          let low = ahead_low s step above step_is l e fed.rises in
          let size_at : span_after (EveryTime s) 0 (l ++ e ∷ []) ≡ m + count = let next = ahead_push step size above s step_is l e in omega arith in
          let cut : range_with_len 0 (m + count) ≡ range_with_len 0 m ++ range_with_len m count = range_append 0 m count ∙ (let same : 0 + m ≡ m = omega arith in ap (λ (a : ℕ). range_with_len 0 m ++ range_with_len a count) same) in
          let old : filter_map f (range_with_len 0 m) ≡ filter_map (first_open step size l) (range_with_len 0 m) =
          filter_map_same f (first_open step size l) (range_with_len 0 m)
          (All-weaker (λ k. (0 ≤ k) × (k < 0 + m)) (λ k. f k ≡ first_open step size l k) (λ k its. same_first step size above s step_is q k l e fed (let high = its.1 in omega arith)) (range_with_len 0 m) (range_within 0 m)) in
          ap (λ (n : ℕ). filter_map f (range_with_len 0 n)) size_at ∙ ap (filter_map f) cut ∙ filter_map-append f (range_with_len 0 m) (range_with_len m count)
          ∙ (λ i. (old ∙ before fed.before) i ++ new_windows l e fed (1 + length l) (omega arith) i)
          ∙ sym (opened_from_push (EveryTime s) (Time d) 1 0 l e)

  -- how many spans begin up to the event behind a list
  spans_push : (events : List Event) (e : Event) → spans step (events ++ e ∷ []) ≡ stamp e / step + 1
  spans_push events e =
      ap (λ (l : List Numbered). time_or 0 (last_or None l) / step + 1) (numbered_push events e)
      ∙ ap (λ (o : Option Numbered). time_or 0 o / step + 1) (last_or-push None (numbered events) (length events + 1, e))

  -- up to the last event no more spans begin
  spans_all : (events : List Event) → filter_map (first_open step size events) (range_with_len 0 (spans step events)) ≡ filter_map (first_open step size events) (range_with_len 0 (span_after (EveryTime s) 0 events))
  spans_all = by_feeding (λ l. filter_map (first_open step size l) (range_with_len 0 (spans step l)) ≡ filter_map (first_open step size l) (range_with_len 0 (span_after (EveryTime s) 0 l)))
      (filter_map_none (first_open step size []) (range_with_len 0 (spans step [])) (All-weaker (λ k. (0 ≤ k) × (k < 0 + spans step [])) (λ k. first_open step size [] k ≡ None) (λ k its. refl) (range_with_len 0 (spans step [])) (range_within 0 (spans step []))))
      (λ l e before. ap (λ (n : ℕ). filter_map (first_open step size (l ++ e ∷ [])) (range_with_len 0 n)) (spans_push l e ∙ sym (ahead_push step size above s step_is l e)))

  -- windows of spans are those that the events open
  spans_windows : (events : List Event) (ended : Bool) → s ≡ pos step → d ≡ pos size → Good q events → windows_by (EveryTime s) (Time d) events ended ≡ map (window_of events ended) (opened_from (EveryTime s) (Time d) 1 0 events)
  spans_windows events ended s_is d_is good =
      let f : ℕ → Option Window = λ k. window_within (pos k *ℤ s) (pos k *ℤ s +ℤ d) events ended in
      let g : ℕ → Option Window = λ k. option_map (window_of events ended) (first_open step size events k) in
      let count = spans (unsigned_abs s) events in
      let agree : All (λ k. f k ≡ g k) (range_with_len 0 count) =
      All-weaker (λ k. (0 ≤ k) × (k < 0 + count)) (λ k. f k ≡ g k) (λ k its. span_is q events ended (pos k *ℤ s) (pos k *ℤ s +ℤ d) step size k good long (product_is k s step s_is) (λ i. product_is k s step s_is i +ℤ d_is i)) (range_with_len 0 count) (range_within 0 count) in
      filter_map_same f g (range_with_len 0 count) agree ∙ filter_map_map (first_open step size events) (window_of events ended) (range_with_len 0 count)
      ∙ ap (map (window_of events ended)) (ap (λ (n : ℕ). filter_map (first_open step size events) (range_with_len 0 (spans n events))) (sym step_is) ∙ spans_all events ∙ spans_opened events good)

-- and so for every opening and length
windows_by_are : (q : Plan) (events : List Event) (ended : Bool) (o : Opening) (l : Length) → IsLength l → IsOpening l o → Good q events → windows_by o l events ended ≡ map (window_of events ended) (opened_from o l 1 0 events)
windows_by_are q events ended (EveryEvents s) l long limits good = windows_one_by_one q events ended (EveryEvents s) l (λ x. (x.0 - 1) % s == 0) good long (λ n next e. refl)
windows_by_are q events ended (When p) l long limits good = windows_one_by_one q events ended (When p) l (λ x. holds p x.1 []) good long (λ n next e. refl)
windows_by_are q events ended (EveryTime s) (Events c) long limits good = absurd limits
windows_by_are q events ended (EveryTime s) (Time d) long limits good =
    spans_windows q s d (unsigned_abs s) (unsigned_abs d) (abs_above s limits.0) (abs_above d long.0) refl refl events ended (abs_is s limits.0) (abs_is d long.0) good

-- the windows of good events are those that they open
pub windows_are : (q : Plan) → IsWindowed q → (events : List Event) (ended : Bool) → Good q events → windows q events ended ≡ map (window_of events ended) (opened q events)
windows_are q limits events ended good = windows_by_are q events ended q.opening q.length limits.length_is limits.opening_is good
