-- The windows of events are those that the events open.
use Rattle.std.proofs.Common.{◌≡◌, inl, inr, ℕ, ℤ, pos, ◌+◌, ◌<◌, ◌≤◌, ◌<ℤ◌, ◌+ℤ◌, Bool, true, false, ◌&&◌, ◌||◌, List, [], ◌∷◌, ◌++◌, length, map, None, refl, sym, ap, ◌∙◌, subst, arith}
use Rattle.std.specs.Prelude.{filter, nat_le, nat_lt, int_le, int_lt, unsigned_abs, if◌then◌else◌}
use Rattle.std.specs.List.{All, enumerate_from, list_any, last_or}
use Rattle.std.proofs.lemmas.Bool.{cases_Bool}
use Rattle.std.proofs.lemmas.Bool.Decides.{nat_tests}
use Rattle.std.proofs.lemmas.Int.{ints}
use Rattle.std.proofs.lemmas.List.Elements.{All-nil, All-cons, All-head, All-tail, All-weaker, All-push, All-filter}
use Rattle.std.proofs.lemmas.List.Folds.{list_any-append}
use Rattle.sp_plan.specs.declared.event.Event.{Event}
use Rattle.sp_plan.specs.declared.plan.Plan.{Plan}
use Rattle.sp_plan.specs.declared.plan.Length.{Length}
use Rattle.sp_plan.specs.declared.plan.Length.TheVariants.{Events, Time}
use Rattle.sp_plan.specs.declared.plan.Opening.{Opening}
use Rattle.sp_plan.specs.Events.{fits}
use Rattle.sp_plan.specs.Windows.{Numbered, numbered, number_or, Window, window_from, IsLength}
use Rattle.sp_plan.specs.WindowNumbers.{Good}
use Rattle.sp_window.specs.declared.record.Record.{Record}
use Rattle.sp_window.specs.Times.{stamp, last_stamp}
use Rattle.sp_window.specs.Openings.{limit_from, open_at, opening_by, next_span, opened_from}
use Rattle.sp_window.specs.Holding.{last_of, is_shut}
use Rattle.sp_window.proofs.Lists.{by_feeding, filter_same, map_same, all_both}
use Rattle.sp_window.proofs.Feeding.{InTime, in_time, Fed, good_less, last_stamp_push}
use Rattle.sp_window.proofs.Lasts.{numbered_push}
use Rattle.sp_window.proofs.Opened.{abs_above}

-- a window that was opened, as the windows of events say it
abbrev pub window_of : List Event → Bool → Record → Window
window_of events ended r = record { first = r.first; last = last_of events r; closed = is_shut events ended r }

-- what holds of all events holds of them with their numbers
pub all_numbered : (P : Event → Type 0) (n : ℕ) (events : List Event) → All P events → All (λ (y : Numbered). P y.1) (enumerate_from n events)
all_numbered P n [] all = All-nil (λ (y : Numbered). P y.1)
all_numbered P n (e ∷ events) all = All-cons (λ (y : Numbered). P y.1) (n, e) (enumerate_from (n + 1) events) (All-head P e events all) (all_numbered P (n + 1) events (All-tail P e events all))

-- the events with their numbers are in time
pub timed : (q : Plan) (events : List Event) → Good q events → All (λ (y : Numbered). InTime y.1) (numbered events)
timed q events good = all_numbered InTime 1 events (All-weaker (λ e. fits q e ≡ true) InTime (λ e is. in_time q e is) events good.0)

-- whether an event is as late as a time
pub late_is : (u : ℕ) (t : ℤ) (n : ℕ) → t ≡ pos n → int_le (pos u) t ≡ nat_le u n
late_is u t n is = ap (λ (z : ℤ). int_le (pos u) z) is

-- whether an event is before a time
pub early_is : (u : ℕ) (t : ℤ) (n : ℕ) → t ≡ pos n → int_lt t (pos u) ≡ nat_lt n u
early_is u t n is = ap (λ (z : ℤ). int_lt z (pos u)) is

-- an event as late as a time came exactly where the last one is
pub any_late : (q : Plan) (u : ℕ) → 0 < u → (events : List Event) → Good q events → list_any (λ (y : Numbered). int_le (pos u) y.1.time) (numbered events) ≡ nat_le u (last_stamp events)
any_late q u above = by_feeding (λ l. Good q l → list_any (λ (y : Numbered). int_le (pos u) y.1.time) (numbered l) ≡ nat_le u (last_stamp l)) (λ good. grind (arith, nat_tests)) (λ l e before good. more l e before (good_less q l e good))
  where
    or_false : (b : Bool) → (b || false) ≡ b
    or_false true = refl
    or_false false = refl

    rises : (a b : ℕ) → a ≤ b → (nat_le u a || nat_le u b) ≡ nat_le u b
    rises a b le = grind (arith, nat_tests)

    more : (l : List Event) (e : Event) → (Good q l → list_any (λ (y : Numbered). int_le (pos u) y.1.time) (numbered l) ≡ nat_le u (last_stamp l)) → Fed q l e → list_any (λ (y : Numbered). int_le (pos u) y.1.time) (numbered (l ++ e ∷ [])) ≡ nat_le u (last_stamp (l ++ e ∷ []))
    more l e before fed =
        let late : Numbered → Bool = λ (y : Numbered). int_le (pos u) y.1.time in
        ap (list_any late) (numbered_push l e) ∙ list_any-append late (numbered l) ((length l + 1, e) ∷ [])
        ∙ (λ i. before fed.before i || (or_false (int_le (pos u) e.time) ∙ late_is u e.time (stamp e) (in_time q e fed.fits_it).is) i)
        ∙ rises (last_stamp l) (stamp e) fed.rises ∙ ap (nat_le u) (sym (last_stamp_push l e))

-- a sum of times, as numbers
sum_is : (a b : ℤ) (m n : ℕ) → a ≡ pos m → b ≡ pos n → (a +ℤ b) ≡ pos (m + n)
sum_is a b m n p q = λ i. p i +ℤ q i

-- a number above 0 is its magnitude
pub abs_is : (d : ℤ) → pos 0 <ℤ d → d ≡ pos (unsigned_abs d)
abs_is d above = omega (arith, ints)

-- the window that an event begins, seen by its limit
abbrev begun : Length → Numbered → Record
begun l x = open_at x.0 (limit_from l x.0 (stamp x.1))

-- the window that an event begins is the one that it opens
window_is : (q : Plan) (events : List Event) (ended : Bool) (l : Length) (x : Numbered) → Good q events → IsLength l → InTime x.1 → window_from l events ended x ≡ window_of events ended (begun l x)
window_is q events ended (Events n) x good long time = refl
window_is q events ended (Time d) x good long time =
    let u = stamp x.1 + unsigned_abs d in
    let until : (x.1.time +ℤ d) ≡ pos u = sum_is x.1.time d (stamp x.1) (unsigned_abs d) time.is (abs_is d long.0) in
    let some : 0 < u = let size = abs_above d long.0 in omega arith in
    let test : All (λ (y : Numbered). (nat_le x.0 y.0 && int_lt y.1.time (x.1.time +ℤ d)) ≡ (nat_le x.0 y.0 && nat_lt (stamp y.1) u)) (numbered events) =
    All-weaker (λ (y : Numbered). InTime y.1) (λ (y : Numbered). (nat_le x.0 y.0 && int_lt y.1.time (x.1.time +ℤ d)) ≡ (nat_le x.0 y.0 && nat_lt (stamp y.1) u))
    (λ y its. ap (λ (b : Bool). nat_le x.0 y.0 && b) (ap (λ (z : ℤ). int_lt y.1.time z) until ∙ early_is u y.1.time (stamp y.1) its.is)) (numbered events) (timed q events good) in
    let members = filter_same (λ (y : Numbered). nat_le x.0 y.0 && int_lt y.1.time (x.1.time +ℤ d)) (λ (y : Numbered). nat_le x.0 y.0 && nat_lt (stamp y.1) u) (numbered events) test in
    let past : list_any (λ (y : Numbered). int_le (x.1.time +ℤ d) y.1.time) (numbered events) ≡ nat_le u (last_stamp events) =
    ap (λ (z : ℤ). list_any (λ (y : Numbered). int_le z y.1.time) (numbered events)) until ∙ any_late q u some events good in
    λ i. record { first = x.0; last = number_or x.0 (last_or None (members i)); closed = ended || past i }

-- one window or none before others
one_before : (l : Length) (x : Numbered) (b : Bool) (rs : List Record) (xs : List Numbered) → rs ≡ map (begun l) xs → (if b then begun l x ∷ [] else []) ++ rs ≡ map (begun l) (if b then x ∷ xs else xs)
one_before l x true rs xs rest = ap (λ z. begun l x ∷ z) rest
one_before l x false rs xs rest = rest

-- the windows that open one at an event
one_by_one : (o : Opening) (l : Length) (p : Numbered → Bool) → ((n next : ℕ) (e : Event) → opening_by o l n next e ≡ (if p (n, e) then begun l (n, e) ∷ [] else [])) → (n next : ℕ) (events : List Event)
    → opened_from o l n next events ≡ map (begun l) (filter p (enumerate_from n events))
one_by_one o l p is n next [] = refl
one_by_one o l p is n next (e ∷ events) =
    ap (λ (z : List Record). z ++ opened_from o l (n + 1) (next_span o e) events) (is n next e)
    ∙ one_before l (n, e) (p (n, e)) (opened_from o l (n + 1) (next_span o e) events) (filter p (enumerate_from (n + 1) events)) (one_by_one o l p is (n + 1) (next_span o e) events)

-- one function after another
map_map : {X Y Z : Type 0} (f : X → Y) (g : Y → Z) (xs : List X) → map g (map f xs) ≡ map (λ x. g (f x)) xs
map_map f g [] = refl
map_map f g (x ∷ xs) = ap (λ l. g (f x) ∷ l) (map_map f g xs)

-- windows that open one at an event are those that the events open
pub windows_one_by_one : (q : Plan) (events : List Event) (ended : Bool) (o : Opening) (l : Length) (p : Numbered → Bool) → Good q events → IsLength l
    → ((n next : ℕ) (e : Event) → opening_by o l n next e ≡ (if p (n, e) then begun l (n, e) ∷ [] else []))
    → map (window_from l events ended) (filter p (numbered events)) ≡ map (window_of events ended) (opened_from o l 1 0 events)
windows_one_by_one q events ended o l p good long is =
    let xs = filter p (numbered events) in
    map_same (window_from l events ended) (λ x. window_of events ended (begun l x)) xs
    (All-weaker (λ (y : Numbered). InTime y.1) (λ (y : Numbered). window_from l events ended y ≡ window_of events ended (begun l y)) (λ y its. window_is q events ended l y good long its) xs (All-filter p (λ (y : Numbered). InTime y.1) (numbered events) (timed q events good)))
    ∙ sym (map_map (begun l) (window_of events ended) xs) ∙ ap (map (window_of events ended)) (sym (one_by_one o l p is 1 0 events))

-- stamps never fall
abbrev pub Ascending : List Event → Type 0
Ascending [] = Unit {0}
Ascending (e ∷ events) = All (λ y. stamp e ≤ stamp y) events × Ascending events

-- stamps that ascend up to one more
ascending_push : (events : List Event) (e : Event) → Ascending events → All (λ y. stamp y ≤ stamp e) events → Ascending (events ++ e ∷ [])
ascending_push [] e up low = (All-nil (λ y. stamp e ≤ stamp y), tt)
ascending_push (x ∷ events) e up low = (All-push (λ y. stamp x ≤ stamp y) events e up.0 (All-head (λ y. stamp y ≤ stamp e) x events low), ascending_push events e up.1 (All-tail (λ y. stamp y ≤ stamp e) x events low))

-- good events ascend up to the last one
pub record Rising (events : List Event) : Type 0 where
  pub up : Ascending events
  pub low : All (λ y. stamp y ≤ last_stamp events) events

-- the stamps of good events ascend
pub rising : (q : Plan) (events : List Event) → Good q events → Rising events
rising q = by_feeding (λ l. Good q l → Rising l) (λ good. record { up = tt; low = All-nil (λ y. stamp y ≤ 0) }) (λ l e before good. more l e before (good_less q l e good))
  where
    more : (l : List Event) (e : Event) → (Good q l → Rising l) → Fed q l e → Rising (l ++ e ∷ [])
    more l e before fed =
        let own = before fed.before in
        let rise = fed.rises in
        let low : All (λ y. stamp y ≤ stamp e) l = All-weaker (λ y. stamp y ≤ last_stamp l) (λ y. stamp y ≤ stamp e) (λ y le. omega arith) l own.low in
        record {
          up = ascending_push l e own.up low;
          low = subst (λ (t : ℕ). All (λ y. stamp y ≤ t) (l ++ e ∷ [])) (sym (last_stamp_push l e)) (All-push (λ y. stamp y ≤ stamp e) l e low (omega arith));
        }

-- numbers from one on
numbers_low : (n : ℕ) (events : List Event) → All (λ (y : Numbered). n ≤ y.0) (enumerate_from n events)
numbers_low n [] = All-nil (λ (y : Numbered). n ≤ y.0)
numbers_low n (e ∷ events) = All-cons (λ (y : Numbered). n ≤ y.0) (n, e) (enumerate_from (n + 1) events) (omega arith) (All-weaker (λ (y : Numbered). n + 1 ≤ y.0) (λ (y : Numbered). n ≤ y.0) (λ y le. omega arith) (enumerate_from (n + 1) events) (numbers_low (n + 1) events))

-- whether an event is within a span of time
abbrev pub inside : ℕ → ℕ → Numbered → Bool
inside from until y = nat_le from (stamp y.1) && nat_lt (stamp y.1) until

-- the events of a span are those below its end from its first one on
pub span_members : (from until n : ℕ) (events : List Event) (x : Numbered) (rest : List Numbered) → Ascending events → filter (inside from until) (enumerate_from n events) ≡ x ∷ rest
    → filter (λ (y : Numbered). nat_le x.0 y.0 && nat_lt (stamp y.1) until) (enumerate_from n events) ≡ x ∷ rest
span_members from until n [] x rest up is = cc
span_members from until n (e ∷ events) x rest up is = elim (cases_Bool (inside from until (n, e))) [
  | inl within' ↦
      let own : (n, e) ∷ filter (inside from until) (enumerate_from (n + 1) events) ≡ x ∷ rest = rw within' at is in
      let same : (n, e) ≡ x = cc in
      let first : n ≡ x.0 = ap (λ (y : Numbered). y.0) same in
      let both : All (λ (y : Numbered). (n ≤ y.0) × (from ≤ stamp y.1)) (enumerate_from n (e ∷ events)) =
      all_both (λ (y : Numbered). n ≤ y.0) (λ (y : Numbered). from ≤ stamp y.1) (enumerate_from n (e ∷ events)) (numbers_low n (e ∷ events))
      (all_numbered (λ y. from ≤ stamp y) n (e ∷ events) (All-cons (λ y. from ≤ stamp y) e events (starts (stamp e) within') (All-weaker (λ y. stamp e ≤ stamp y) (λ y. from ≤ stamp y) (λ y le. let low = starts (stamp e) within' in omega arith) events up.0))) in
      filter_same (λ (y : Numbered). nat_le x.0 y.0 && nat_lt (stamp y.1) until) (inside from until) (enumerate_from n (e ∷ events))
      (All-weaker (λ (y : Numbered). (n ≤ y.0) × (from ≤ stamp y.1)) (λ (y : Numbered). (nat_le x.0 y.0 && nat_lt (stamp y.1) until) ≡ inside from until y) (λ y its. agree x.0 y.0 (stamp y.1) (let low = its.0 in omega arith) its.1) (enumerate_from n (e ∷ events)) both)
      ∙ is
  | inr without ↦
      let own : filter (inside from until) (enumerate_from (n + 1) events) ≡ x ∷ rest = rw without at is in
      let later : All (λ (y : Numbered). n + 1 ≤ y.0) (x ∷ rest) = subst (λ (l : List Numbered). All (λ (y : Numbered). n + 1 ≤ y.0) l) own (All-filter (inside from until) (λ (y : Numbered). n + 1 ≤ y.0) (enumerate_from (n + 1) events) (numbers_low (n + 1) events)) in
      let high : n + 1 ≤ x.0 = All-head (λ (y : Numbered). n + 1 ≤ y.0) x rest later in
      let shut : (nat_le x.0 n && nat_lt (stamp e) until) ≡ false = not_yet x.0 (nat_lt (stamp e) until) high in
      rw shut (span_members from until (n + 1) events x rest up.1 own)
]
  where
    starts : (t : ℕ) → (nat_le from t && nat_lt t until) ≡ true → from ≤ t
    starts t is = grind (arith, nat_tests)

    agree : (a b t : ℕ) → a ≤ b → from ≤ t → (nat_le a b && nat_lt t until) ≡ (nat_le from t && nat_lt t until)
    agree a b t le low = grind (arith, nat_tests)

    not_yet : (a : ℕ) (b : Bool) → n + 1 ≤ a → (nat_le a n && b) ≡ false
    not_yet a b high = grind (arith, nat_tests)
