-- The windows that events open where the list of events is cut: those of the events behind the cut are those that these open by
-- themselves, moved on.
use Rattle.std.proofs.Common.{◌≡◌, inl, inr, ℕ, ℤ, zero, suc, ◌+◌, ◌-◌, ◌*◌, ◌/◌, ◌%◌, ◌<◌, ◌≤◌, Bool, true, false, List, [], ◌∷◌, ◌++◌, length, map, refl, sym, ap, ◌∙◌, subst, arith, append_assoc}
use Rattle.std.specs.Prelude.{filter, unsigned_abs, ◌==◌, if◌then◌else◌}
use Rattle.std.specs.List.{All, range_with_len}
use Rattle.std.proofs.lemmas.Bool.{cases_Bool, cases_lt, cases_eq}
use Rattle.std.proofs.lemmas.Bool.Decides.{nat_tests}
use Rattle.std.proofs.lemmas.List.{map-append}
use Rattle.std.proofs.lemmas.List.Elements.{All-nil, All-cons, All-head, All-tail, All-append, All-weaker}
use Rattle.std.proofs.lemmas.Nat.{div-add-mod'}
use Rattle.std.proofs.Math.Nat.{add-mul-mod_self_right, le-div_iff_mul-le}
use Rattle.sp_plan.specs.declared.event.Event.{Event}
use Rattle.sp_plan.specs.declared.plan.Plan.{Plan}
use Rattle.sp_plan.specs.declared.plan.Length.{Length}
use Rattle.sp_plan.specs.declared.plan.Length.TheVariants.{Events, Time}
use Rattle.sp_plan.specs.declared.plan.Opening.{Opening}
use Rattle.sp_plan.specs.declared.plan.Opening.TheVariants.{EveryEvents, EveryTime, When}
use Rattle.sp_plan.specs.Values.{holds}
use Rattle.sp_plan.specs.Windows.{IsOpening, IsWindowed, duration}
use Rattle.sp_plan.specs.WindowNumbers.{Good}
use Rattle.sp_window.specs.declared.record.Limit.{Limit}
use Rattle.sp_window.specs.declared.record.Limit.TheVariants.{AtNumber, AtTime}
use Rattle.sp_window.specs.declared.record.Record.{Record}
use Rattle.sp_window.specs.Times.{stamp, last_stamp}
use Rattle.sp_window.specs.Openings.{limit_from, open_at, goes_on, spans_begun, opening_by, next_span, opened_from, opened, span_after}
use Rattle.sp_window.specs.Holding.{is_below}
use Rattle.sp_window.proofs.Lists.{by_feeding, all_front}
use Rattle.sp_window.proofs.Feeding.{good_less, last_stamp_push}
use Rattle.sp_window.proofs.Opened.{opened_from_push, span_after_push, abs_above}
use Rattle.sp_parts.proofs.Lists.{map_map}
use Rattle.sp_parts.proofs.Places.{all_back, all_unmap}

-- a limit of numbers moved on
abbrev pub limit_up : ℕ → Limit → Limit
limit_up a (AtNumber n) = AtNumber (n + a)
limit_up a (AtTime t) = AtTime t

-- a window that was opened, moved on
abbrev pub record_up : ℕ → Record → Record
record_up a r = record { first = r.first + a; limit = limit_up a r.limit; end = r.end }

-- so many events may be cut off in front: a step in events goes on behind them as from the first event
abbrev pub MayCut : Opening → ℕ → Type 0
MayCut (EveryEvents s) a = a % s ≡ 0
MayCut (EveryTime s) a = Unit {0}
MayCut (When p) a = Unit {0}

-- the windows that events open behind others
pub opened_append : (o : Opening) (l : Length) (n next : ℕ) (xs ys : List Event) → opened_from o l n next (xs ++ ys) ≡ opened_from o l n next xs ++ opened_from o l (n + length xs) (span_after o next xs) ys
opened_append o l n next [] ys = let at : n ≡ n + 0 = omega arith in ap (λ (k : ℕ). opened_from o l k next ys) at
opened_append o l n next (x ∷ xs) ys =
    let at : n + 1 + length xs ≡ n + suc (length xs) = omega arith in
    ap (λ (z : List Record). opening_by o l n next x ++ z) (opened_append o l (n + 1) (next_span o x) xs ys ∙ ap (λ (k : ℕ). opened_from o l (n + 1) (next_span o x) xs ++ opened_from o l k (span_after o (next_span o x) xs) ys) at)
    ∙ sym (append_assoc (opening_by o l n next x) (opened_from o l (n + 1) (next_span o x) xs) (opened_from o l (n + suc (length xs)) (span_after o (next_span o x) xs) ys))

-- a limit from a number moved on
limit_moved : (l : Length) (a n t : ℕ) → limit_from l (n + a) t ≡ limit_up a (limit_from l n t)
limit_moved (Events c) a n t = let at : n + a + c ≡ n + c + a = omega arith in ap (λ (m : ℕ). AtNumber m) at
limit_moved (Time d) a n t = refl

-- a place moved on by a multiple of a step
moved_test : (s a n : ℕ) → a % s ≡ 0 → 1 ≤ n → ((n + a - 1) % s == 0) ≡ ((n - 1) % s == 0)
moved_test s a n cut low =
    let whole = div-add-mod' a s in
    let at : n + a - 1 ≡ (n - 1) + a / s * s = omega arith in
    ap (λ (m : ℕ). m % s == 0) at ∙ ap (λ (m : ℕ). m == 0) (add-mul-mod_self_right (n - 1) (a / s) s)

-- one window or none
one_moved : (l : Length) (a n t : ℕ) (b : Bool) → (if b then open_at (n + a) (limit_from l (n + a) t) ∷ [] else []) ≡ map (record_up a) (if b then open_at n (limit_from l n t) ∷ [] else [])
one_moved l a n t true = ap (λ (z : Limit). open_at (n + a) z ∷ []) (limit_moved l a n t)
one_moved l a n t false = refl

-- the windows that an event opens, moved on
opening_moved : (o : Opening) (l : Length) (a n next : ℕ) (e : Event) → MayCut o a → 1 ≤ n → opening_by o l (n + a) next e ≡ map (record_up a) (opening_by o l n next e)
opening_moved (EveryEvents s) l a n next e cut low =
    ap (λ (b : Bool). if b then open_at (n + a) (limit_from l (n + a) (stamp e)) ∷ [] else []) (moved_test s a n cut low) ∙ one_moved l a n (stamp e) ((n - 1) % s == 0)
opening_moved (When p) l a n next e cut low = one_moved l a n (stamp e) (holds p e [])
opening_moved (EveryTime s) l a n next e cut low =
    sym (map_map (λ k. open_at n (AtTime (k * unsigned_abs s + unsigned_abs (duration l)))) (record_up a) (spans_begun (unsigned_abs s) (unsigned_abs (duration l)) next (stamp e)))

-- and those that events open
opened_moved : (o : Opening) (l : Length) (a n next : ℕ) (events : List Event) → MayCut o a → 1 ≤ n → opened_from o l (n + a) next events ≡ map (record_up a) (opened_from o l n next events)
opened_moved o l a n next [] cut low = refl
opened_moved o l a n next (e ∷ events) cut low =
    let at : n + a + 1 ≡ n + 1 + a = omega arith in
    (λ i. opening_moved o l a n next e cut low i ++ (ap (λ (k : ℕ). opened_from o l k (next_span o e) events) at ∙ opened_moved o l a (n + 1) (next_span o e) events cut (omega arith)) i)
    ∙ sym (map-append (record_up a) (opening_by o l n next e) (opened_from o l (n + 1) (next_span o e) events))

-- the numbers of a range of which the first ones fail
skipped : (p : ℕ → Bool) (a m n : ℕ) → ((k : ℕ) → a ≤ k → k < a + m → p k ≡ false) → filter p (range_with_len a (m + n)) ≡ filter p (range_with_len (a + m) n)
skipped p a zero n out = let size : 0 + n ≡ n = omega arith in let at : a ≡ a + 0 = omega arith in (λ i. filter p (range_with_len (at i) (size i)))
skipped p a (suc m) n out =
    let size : suc m + n ≡ suc (m + n) = omega arith in
    let at : a + 1 + m ≡ a + suc m = omega arith in
    let here : p a ≡ false = out a (omega arith) (omega arith) in
    ap (λ (k : ℕ). filter p (range_with_len a k)) size ∙ rw here (skipped p (a + 1) m n (λ k low high. out k (omega arith) (omega arith)) ∙ ap (λ (k : ℕ). filter p (range_with_len k n)) at)

-- a number of a range that passes is among those that do
at_passing : (P : ℕ → Type 0) (p : ℕ → Bool) (a n k : ℕ) → All P (filter p (range_with_len a n)) → a ≤ k → k < a + n → p k ≡ true → P k
at_passing P p a zero k all low high is = absurd (omega arith)
at_passing P p a (suc n) k all low high is = elim (cases_eq a k) [
  | inl same ↦
      let here : p a ≡ true = ap p same ∙ is in
      let own : All P (a ∷ filter p (range_with_len (a + 1) n)) = rw here at all in
      subst P same (All-head P a (filter p (range_with_len (a + 1) n)) own)
  | inr other ↦ at_passing P p (a + 1) n k (rest (p a) (filter p (range_with_len (a + 1) n)) all) (omega arith) (omega arith) is
]
  where
    rest : (b : Bool) (l : List ℕ) → All P (if b then a ∷ l else l) → All P l
    rest true l all = All-tail P a l all
    rest false l all = all

-- no window opened before has an event from this one on
abbrev pub NoneReaches : List Record → ℕ → Event → Type 0
NoneReaches rs n x = All (λ r. is_below r.limit (n, x) ≡ false) rs

-- then no span that began before the event is still going on at it
module _ (s d : ℤ) (above : 0 < unsigned_abs s) (n : ℕ) (x : Event) where
  abbrev step : ℕ
  step = unsigned_abs s

  abbrev size : ℕ
  size = unsigned_abs d

  past : (k t : ℕ) → goes_on step size t k ≡ false → t ≤ stamp x → goes_on step size (stamp x) k ≡ false
  past k t over late = grind (arith, nat_tests)

  none_goes_on : (q : Plan) (events : List Event) → Good q events → last_stamp events ≤ stamp x → NoneReaches (opened_from (EveryTime s) (Time d) 1 0 events) n x → (k : ℕ) → k < span_after (EveryTime s) 0 events → goes_on step size (stamp x) k ≡ false
  none_goes_on q = by_feeding (λ l. Good q l → last_stamp l ≤ stamp x → NoneReaches (opened_from (EveryTime s) (Time d) 1 0 l) n x → (k : ℕ) → k < span_after (EveryTime s) 0 l → goes_on step size (stamp x) k ≡ false)
      (λ good late none k low. absurd (omega arith)) (λ l e before good late none k low. more l e before good late none k low)
    where
      more : (l : List Event) (e : Event) → (Good q l → last_stamp l ≤ stamp x → NoneReaches (opened_from (EveryTime s) (Time d) 1 0 l) n x → (k : ℕ) → k < span_after (EveryTime s) 0 l → goes_on step size (stamp x) k ≡ false)
          → Good q (l ++ e ∷ []) → last_stamp (l ++ e ∷ []) ≤ stamp x → NoneReaches (opened_from (EveryTime s) (Time d) 1 0 (l ++ e ∷ [])) n x → (k : ℕ) → k < span_after (EveryTime s) 0 (l ++ e ∷ []) → goes_on step size (stamp x) k ≡ false
      more l e before good late none k low =
          let fed = good_less q l e good in
          let rise = fed.rises in
          let at = last_stamp_push l e in
          let next = span_after (EveryTime s) 0 l in
          let ahead = span_after_push (EveryTime s) 0 l e in
          let news = opening_by (EveryTime s) (Time d) (1 + length l) next e in
          let split = opened_from_push (EveryTime s) (Time d) 1 0 l e in
          let all : NoneReaches (opened_from (EveryTime s) (Time d) 1 0 l ++ news) n x = subst (λ (rs : List Record). NoneReaches rs n x) split none in
          let soon : stamp e ≤ stamp x = omega arith in
          elim (cases_lt k next) [
            | inl old ↦ before fed.before (omega arith) (all_front (λ r. is_below r.limit (n, x) ≡ false) (opened_from (EveryTime s) (Time d) 1 0 l) news all) k old
            | inr new ↦ elim (cases_Bool (goes_on step size (stamp e) k)) [
              | inl on ↦
                  at_passing (λ k. goes_on step size (stamp x) k ≡ false) (goes_on step size (stamp e)) next (stamp e / step + 1 - next) k
                  (all_unmap (λ r. is_below r.limit (n, x) ≡ false) (λ k. open_at (1 + length l) (AtTime (k * step + size))) (spans_begun step size next (stamp e))
                  (all_back (λ r. is_below r.limit (n, x) ≡ false) (opened_from (EveryTime s) (Time d) 1 0 l) news all))
                  new (omega arith) on
              | inr over ↦ past k (stamp e) over soon
            ]
          ]

-- the first event behind a cut opens what it opens by itself
first_opening : (q : Plan) (o : Opening) (l : Length) (n : ℕ) (xs : List Event) (x : Event) (m : ℕ) → IsOpening l o → Good q xs → last_stamp xs ≤ stamp x → NoneReaches (opened_from o l 1 0 xs) m x
    → opening_by o l n (span_after o 0 xs) x ≡ opening_by o l n 0 x
first_opening q (EveryEvents s) l n xs x m limits good late none = refl
first_opening q (When p) l n xs x m limits good late none = refl
first_opening q (EveryTime s) (Events c) n xs x m limits good late none = absurd limits
first_opening q (EveryTime s) (Time d) n xs x m limits good late none =
    let above : 0 < unsigned_abs s = abs_above s limits.0 in
    let step = unsigned_abs s in
    let size = unsigned_abs d in
    let next = span_after (EveryTime s) 0 xs in
    let time = stamp x in
    let low : next ≤ time / step + 1 = begun s above xs time late in
    let out = none_goes_on s d above m x q xs good late none in
    let cut : time / step + 1 - 0 ≡ next + (time / step + 1 - next) = omega arith in
    let from : 0 + next ≡ next = omega arith in
    let same : spans_begun step size 0 time ≡ spans_begun step size next time =
    ap (λ (k : ℕ). filter (goes_on step size time) (range_with_len 0 k)) cut ∙ skipped (goes_on step size time) 0 next (time / step + 1 - next) (λ k from' to. out k (omega arith))
    ∙ ap (λ (k : ℕ). filter (goes_on step size time) (range_with_len k (time / step + 1 - next))) from in
    ap (map (λ k. open_at n (AtTime (k * step + size)))) (sym same)
  where
    rises : (step a b : ℕ) → 0 < step → a ≤ b → a / step ≤ b / step
    rises step a b above le =
        let product : a / step * step ≤ a = (le-div_iff_mul-le {k = step} {x = a / step} {y = a} above).0 (omega arith) in
        (le-div_iff_mul-le {k = step} {x = a / step} {y = b} above).1 (omega arith)

    begun : (s : ℤ) → 0 < unsigned_abs s → (l : List Event) (t : ℕ) → last_stamp l ≤ t → span_after (EveryTime s) 0 l ≤ t / unsigned_abs s + 1
    begun s above = by_feeding (λ l. (t : ℕ) → last_stamp l ≤ t → span_after (EveryTime s) 0 l ≤ t / unsigned_abs s + 1) (λ t late. omega arith)
        (λ l e before t late.
        let ahead = span_after_push (EveryTime s) 0 l e in
        let at = last_stamp_push l e in
        let rise = rises (unsigned_abs s) (stamp e) t above (omega arith) in
        omega arith)

-- behind a cut that no window crosses events open what they open by themselves
pub opened_behind : (q : Plan) → IsWindowed q → (xs : List Event) (x : Event) (ys : List Event) → Good q xs → last_stamp xs ≤ stamp x → MayCut q.opening (length xs) → NoneReaches (opened q xs) (length xs + 1) x
    → opened_from q.opening q.length (1 + length xs) (span_after q.opening 0 xs) (x ∷ ys) ≡ map (record_up (length xs)) (opened q (x ∷ ys))
opened_behind q limits xs x ys good late cut none =
    ap (λ (l : List Record). l ++ opened_from q.opening q.length (1 + length xs + 1) (next_span q.opening x) ys)
    (first_opening q q.opening q.length (1 + length xs) xs x (length xs + 1) limits.opening_is good late none)
    ∙ opened_moved q.opening q.length (length xs) 1 0 (x ∷ ys) cut (omega arith)

-- windows that events open begin from the first of these events on
pub opened_low : (o : Opening) (l : Length) (n next : ℕ) (events : List Event) → All (λ r. n ≤ r.first) (opened_from o l n next events)
opened_low o l n next [] = All-nil (λ r. n ≤ r.first)
opened_low o l n next (e ∷ events) =
    All-append (λ r. n ≤ r.first) (opening_by o l n next e) (opened_from o l (n + 1) (next_span o e) events) (here o)
    (All-weaker (λ r. n + 1 ≤ r.first) (λ r. n ≤ r.first) (λ r low. omega arith) (opened_from o l (n + 1) (next_span o e) events) (opened_low o l (n + 1) (next_span o e) events))
  where
    one : (h : Limit) (b : Bool) → All (λ r. n ≤ r.first) (if b then open_at n h ∷ [] else [])
    one h true = All-cons (λ r. n ≤ r.first) (open_at n h) [] (omega arith) (All-nil (λ r. n ≤ r.first))
    one h false = All-nil (λ r. n ≤ r.first)

    spans_low : (step size : ℕ) (ks : List ℕ) → All (λ r. n ≤ r.first) (map (λ k. open_at n (AtTime (k * step + size))) ks)
    spans_low step size [] = All-nil (λ r. n ≤ r.first)
    spans_low step size (k ∷ ks) = All-cons (λ r. n ≤ r.first) (open_at n (AtTime (k * step + size))) (map (λ k. open_at n (AtTime (k * step + size))) ks) (omega arith) (spans_low step size ks)

    here : (o : Opening) → All (λ r. n ≤ r.first) (opening_by o l n next e)
    here (EveryEvents s) = one (limit_from l n (stamp e)) ((n - 1) % s == 0)
    here (When p) = one (limit_from l n (stamp e)) (holds p e [])
    here (EveryTime s) = spans_low (unsigned_abs s) (unsigned_abs (duration l)) (spans_begun (unsigned_abs s) (unsigned_abs (duration l)) next (stamp e))
