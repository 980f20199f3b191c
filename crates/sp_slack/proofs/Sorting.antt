-- Sorted events: they never go back in time, and are those that came.
use Rattle.std.proofs.Common.{◌≡◌, ℕ, zero, suc, ℤ, ◌+◌, ◌≤◌, ◌≤ℤ◌, Bool, true, false, cond, List, [], ◌∷◌, ◌++◌, length, Some, refl, ap, subst, arith}
use Rattle.std.specs.Prelude.{int_lt, slice_get, if◌then◌else◌}
use Rattle.std.specs.List.{All, fold, filter, count_by}
use Rattle.std.proofs.lemmas.Int.{ints}
use Rattle.std.proofs.lemmas.List.Elements.{All-append, All-nil, All-filter, All-push}
use Rattle.std.proofs.lemmas.List.Sums.{fold_push, sum_by-append}
use Rattle.sp_plan.specs.Events.{NeverGoesBack}
use Rattle.sp_plan.specs.declared.event.Event.{Event}
use Rattle.sp_slack.specs.HeldBack.{put, sorted, slacked, least, is_up_to}

-- none of the events is before this one
abbrev pub AreFrom : Event → List Event → Type 0
AreFrom e [] = Unit {0}
AreFrom e (x ∷ xs) = (e.time ≤ℤ x.time) × AreFrom e xs

-- each event is no later than those behind it
abbrev pub Rise : List Event → Type 0
Rise [] = Unit {0}
Rise (x ∷ xs) = AreFrom x xs × Rise xs

pub from_earlier : (e f : Event) (xs : List Event) → e.time ≤ℤ f.time → AreFrom f xs → AreFrom e xs
from_earlier e f [] le from = tt
from_earlier e f (x ∷ xs) le from = (omega (arith, ints, le, from.0), from_earlier e f xs le from.1)

-- ---- one event more

from_put : (e f : Event) (xs : List Event) → f.time ≤ℤ e.time → AreFrom f xs → AreFrom f (put xs e)
from_put e f [] le from = (le, tt)
from_put e f (x ∷ xs) le from = by (int_lt e.time x.time) (from_put e f xs le from.1)
  where
    by : (b : Bool) → AreFrom f (put xs e) → AreFrom f (if b then e ∷ x ∷ xs else x ∷ put xs e)
    by true rest = (le, from)
    by false rest = (from.0, rest)

pub rise_put : (xs : List Event) (e : Event) → Rise xs → Rise (put xs e)
rise_put [] e rise = (tt, tt)
rise_put (x ∷ xs) e rise = by (int_lt e.time x.time) refl (rise_put xs e rise.1)
  where
    by : (b : Bool) → int_lt e.time x.time ≡ b → Rise (put xs e) → Rise (if b then e ∷ x ∷ xs else x ∷ put xs e)
    by true is rest = let le : e.time ≤ℤ x.time = grind (arith, ints) in ((le, from_earlier e x xs le rise.0), rise)
    by false is rest = let le : x.time ≤ℤ e.time = grind (arith, ints) in (from_put e x xs le rise.0, rest)

pub length_put : (xs : List Event) (e : Event) → length (put xs e) ≡ suc (length xs)
length_put [] e = refl
length_put (x ∷ xs) e = by (int_lt e.time x.time) (length_put xs e)
  where
    by : (b : Bool) → length (put xs e) ≡ suc (length xs) → length (if b then e ∷ x ∷ xs else x ∷ put xs e) ≡ suc (suc (length xs))
    by true rest = refl
    by false rest = ap (λ (n : ℕ). suc n) rest

pub all_put : (is : Event → Bool) (xs : List Event) (e : Event) → All (λ x. is x ≡ true) xs → is e ≡ true → All (λ x. is x ≡ true) (put xs e)
all_put is [] e all at = All-push (λ x. is x ≡ true) [] e (All-nil (λ x. is x ≡ true)) at
all_put is (x ∷ xs) e all at = by (int_lt e.time x.time) (all_put is xs e (λ j d inside. all (suc j) d (omega (arith, inside))) at)
  where
    first : All (λ y. is y ≡ true) (x ∷ [])
    first = All-push (λ y. is y ≡ true) [] x (All-nil (λ y. is y ≡ true)) (all 0 x (omega arith))

    by : (b : Bool) → All (λ y. is y ≡ true) (put xs e) → All (λ y. is y ≡ true) (if b then e ∷ x ∷ xs else x ∷ put xs e)
    by true rest = All-append (λ y. is y ≡ true) (e ∷ []) (x ∷ xs) (All-push (λ y. is y ≡ true) [] e (All-nil (λ y. is y ≡ true)) at) all
    by false rest = All-append (λ y. is y ≡ true) (x ∷ []) (put xs e) first rest

-- how many pass a test
count_more : (is : Event → Bool) (x : Event) (xs : List Event) → count_by is (x ∷ xs) ≡ count_by is (x ∷ []) + count_by is xs
count_more is x xs = sum_by-append (λ y. cond (is y) 1 0) (x ∷ []) xs

count_put : (is : Event → Bool) (xs : List Event) (e : Event) → count_by is (put xs e) ≡ count_by is (e ∷ []) + count_by is xs
count_put is [] e = omega (arith, count_more is e [])
count_put is (x ∷ xs) e = by (int_lt e.time x.time) (count_put is xs e)
  where
    by : (b : Bool) → count_by is (put xs e) ≡ count_by is (e ∷ []) + count_by is xs → count_by is (if b then e ∷ x ∷ xs else x ∷ put xs e) ≡ count_by is (e ∷ []) + count_by is (x ∷ xs)
    by true rest = count_more is e (x ∷ xs)
    by false rest = omega (arith, count_more is x (put xs e), count_more is x xs, rest)

-- ---- all of them

module _ (is : Event → Bool) where
  all_sort : (events so_far : List Event) → All (λ e. is e ≡ true) so_far → All (λ e. is e ≡ true) events → All (λ e. is e ≡ true) (fold put so_far events)
  all_sort [] so_far some all = some
  all_sort (e ∷ events) so_far some all =
      all_sort events (put so_far e) (all_put is so_far e some (all 0 e (omega arith))) (λ j d inside. all (suc j) d (omega (arith, inside)))

  count_sort : (events so_far : List Event) → count_by is (fold put so_far events) ≡ count_by is events + count_by is so_far
  count_sort [] so_far = omega arith
  count_sort (e ∷ events) so_far = omega (arith, count_sort events (put so_far e), count_put is so_far e, count_more is e events)

  pub all_sorted : (events : List Event) → All (λ e. is e ≡ true) events → All (λ e. is e ≡ true) (sorted events)
  all_sorted events all = all_sort events [] (All-nil (λ e. is e ≡ true)) all

  pub count_sorted : (events : List Event) → count_by is (sorted events) ≡ count_by is events
  count_sorted events = omega (arith, count_sort events [])

rise_sort : (events so_far : List Event) → Rise so_far → Rise (fold put so_far events)
rise_sort [] so_far rise = rise
rise_sort (e ∷ events) so_far rise = rise_sort events (put so_far e) (rise_put so_far e rise)

length_sort : (events so_far : List Event) → length (fold put so_far events) ≡ length events + length so_far
length_sort [] so_far = omega arith
length_sort (e ∷ events) so_far = omega (arith, length_sort events (put so_far e), length_put so_far e)

pub rise_sorted : (events : List Event) → Rise (sorted events)
rise_sorted events = rise_sort events [] tt

pub length_sorted : (events : List Event) → length (sorted events) ≡ length events
length_sorted events = omega (arith, length_sort events [])

pub sorted_more : (events : List Event) (e : Event) → sorted (events ++ e ∷ []) ≡ put (sorted events) e
sorted_more events e = fold_push put [] events e

-- ---- rising lists

from_at : (e : Event) (xs : List Event) (j : ℕ) (y : Event) → AreFrom e xs → slice_get xs j ≡ Some y → e.time ≤ℤ y.time
from_at e [] j y from is = absurd (cc is)
from_at e (x ∷ xs) zero y from is = let same : x ≡ y = cc is in subst (λ (z : Event). e.time ≤ℤ z.time) same from.0
from_at e (x ∷ xs) (suc j) y from is = from_at e xs j y from.1 is

pub rise_ordered : (xs : List Event) → Rise xs → NeverGoesBack xs
rise_ordered [] rise i j x y le xi yj = absurd (cc xi)
rise_ordered (e ∷ xs) rise zero zero x y le xi yj =
    let one : e ≡ x = cc xi in
    let other : e ≡ y = cc yj in
    let same : x ≡ y = cc (one, other) in
    subst (λ (z : Event). x.time ≤ℤ z.time) same (omega (arith, ints))
rise_ordered (e ∷ xs) rise zero (suc j) x y le xi yj =
    let one : e ≡ x = cc xi in
    subst (λ (z : Event). z.time ≤ℤ y.time) one (from_at e xs j y rise.0 yj)
rise_ordered (e ∷ xs) rise (suc i) zero x y le xi yj = absurd (omega (arith, le))
rise_ordered (e ∷ xs) rise (suc i) (suc j) x y le xi yj = rise_ordered xs rise.1 i j x y (omega (arith, le)) xi yj

from_filter : (is : Event → Bool) (e : Event) (xs : List Event) → AreFrom e xs → AreFrom e (filter is xs)
from_filter is e [] from = tt
from_filter is e (x ∷ xs) from = by (is x) (from_filter is e xs from.1)
  where
    by : (b : Bool) → AreFrom e (filter is xs) → AreFrom e (if b then x ∷ filter is xs else filter is xs)
    by true rest = (from.0, rest)
    by false rest = rest

pub rise_filter : (is : Event → Bool) (xs : List Event) → Rise xs → Rise (filter is xs)
rise_filter is [] rise = tt
rise_filter is (x ∷ xs) rise = by (is x) (from_filter is x xs rise.0) (rise_filter is xs rise.1)
  where
    by : (b : Bool) → AreFrom x (filter is xs) → Rise (filter is xs) → Rise (if b then x ∷ filter is xs else filter is xs)
    by true from rest = (from, rest)
    by false from rest = rest

length_filter : (is : Event → Bool) (xs : List Event) → length (filter is xs) ≤ length xs
length_filter is [] = omega arith
length_filter is (x ∷ xs) = by (is x) (length_filter is xs)
  where
    by : (b : Bool) → length (filter is xs) ≤ length xs → length (if b then x ∷ filter is xs else filter is xs) ≤ suc (length xs)
    by true rest = omega (arith, rest)
    by false rest = omega (arith, rest)

-- ---- what is to be given

pub slacked_ordered : (slack : ℤ) (events : List Event) (ended : Bool) → NeverGoesBack (slacked slack events ended)
slacked_ordered slack events true = rise_ordered (sorted events) (rise_sorted events)
slacked_ordered slack events false = rise_ordered (slacked slack events false) (rise_filter (is_up_to (least slack events)) (sorted events) (rise_sorted events))

pub slacked_own : (is : Event → Bool) (slack : ℤ) (events : List Event) (ended : Bool) → All (λ e. is e ≡ true) events → All (λ e. is e ≡ true) (slacked slack events ended)
slacked_own is slack events true all = all_sorted is events all
slacked_own is slack events false all = All-filter (is_up_to (least slack events)) (λ e. is e ≡ true) (sorted events) (all_sorted is events all)

pub slacked_few : (slack : ℤ) (events : List Event) (ended : Bool) → length (slacked slack events ended) ≤ length events
slacked_few slack events true = omega (arith, length_sorted events)
slacked_few slack events false = omega (arith, length_filter (is_up_to (least slack events)) (sorted events), length_sorted events)
