-- Lists of events in two parts: their numbers, and what good events keep.
use Rattle.std.proofs.Common.{◌≡◌, ℕ, suc, ◌+◌, ◌<◌, ◌≤◌, true, List, [], ◌∷◌, ◌++◌, length, map, Option, Some, None, refl, sym, ap, ◌∙◌, subst, arith, append_assoc}
use Rattle.std.specs.Prelude.{slice_get}
use Rattle.std.specs.List.{All, enumerate_from, last_or}
use Rattle.std.proofs.lemmas.Option.{slice_get_within}
use Rattle.std.proofs.lemmas.List.Elements.{All-nil, All-cons, All-head, All-tail}
use Rattle.sp_plan.specs.declared.event.Event.{Event}
use Rattle.sp_plan.specs.declared.plan.Plan.{Plan}
use Rattle.sp_plan.specs.Events.{fits}
use Rattle.sp_plan.specs.Windows.{Numbered}
use Rattle.sp_plan.specs.WindowNumbers.{Good}
use Rattle.sp_window.specs.Times.{stamp, last_stamp, stamp_or_zero}
use Rattle.sp_window.proofs.Lists.{get_front, all_front}
use Rattle.sp_window.proofs.Feeding.{good_less}
use Rattle.sp_window.proofs.WindowsAre.{Ascending, rising}
use Rattle.sp_parts.proofs.Moved.{numbered_up}

-- the items behind others keep their places
pub get_behind : {X : Type 0} (xs ys : List X) (k : ℕ) → slice_get (xs ++ ys) (length xs + k) ≡ slice_get ys k
get_behind [] ys k = let at : 0 + k ≡ k = omega arith in ap (slice_get ys) at
get_behind (x ∷ xs) ys k = let at : suc (length xs) + k ≡ suc (length xs + k) = omega arith in ap (slice_get (x ∷ xs ++ ys)) at ∙ get_behind xs ys k

-- what holds of all items holds of the last ones
pub all_back : {X : Type 0} (P : X → Type 0) (xs ys : List X) → All P (xs ++ ys) → All P ys
all_back P [] ys all = all
all_back P (x ∷ xs) ys all = all_back P xs ys (All-tail P x (xs ++ ys) all)

-- items that a function changes keep what they are said to keep before
pub all_unmap : {X Y : Type 0} (P : Y → Type 0) (f : X → Y) (xs : List X) → All P (map f xs) → All (λ x. P (f x)) xs
all_unmap P f [] all = All-nil (λ x. P (f x))
all_unmap P f (x ∷ xs) all = All-cons (λ x. P (f x)) x xs (All-head P (f x) (map f xs) all) (all_unmap P f xs (All-tail P (f x) (map f xs) all))

-- the numbers of items in two parts
pub enumerate_append : {X : Type 0} (n : ℕ) (xs ys : List X) → enumerate_from n (xs ++ ys) ≡ enumerate_from n xs ++ enumerate_from (n + length xs) ys
enumerate_append n [] ys = let at : n ≡ n + 0 = omega arith in ap (λ (k : ℕ). enumerate_from k ys) at
enumerate_append n (x ∷ xs) ys =
    let at : n + 1 + length xs ≡ n + suc (length xs) = omega arith in
    ap (λ l. (n, x) ∷ l) (enumerate_append (n + 1) xs ys ∙ ap (λ (k : ℕ). enumerate_from (n + 1) xs ++ enumerate_from k ys) at)

-- events with numbers moved on
pub enumerate_up : (a n : ℕ) (events : List Event) → enumerate_from (n + a) events ≡ map (numbered_up a) (enumerate_from n events)
enumerate_up a n [] = refl
enumerate_up a n (e ∷ events) = let at : n + a + 1 ≡ n + 1 + a = omega arith in ap (λ l. (n + a, e) ∷ l) (ap (λ (k : ℕ). enumerate_from k events) at ∙ enumerate_up a (n + 1) events)

-- the events that numbers were given to
pub enumerated : (n : ℕ) (events : List Event) → map (λ (x : Numbered). x.1) (enumerate_from n events) ≡ events
enumerated n [] = refl
enumerated n (e ∷ events) = ap (λ l. e ∷ l) (enumerated (n + 1) events)

-- their numbers
pub numbers_between : (n : ℕ) (events : List Event) → All (λ (y : Numbered). (n ≤ y.0) × (y.0 < n + length events)) (enumerate_from n events)
numbers_between n events = by n events (n + length events) (omega arith)
  where
    by : (k : ℕ) (l : List Event) (m : ℕ) → k + length l ≤ m → All (λ (y : Numbered). (k ≤ y.0) × (y.0 < m)) (enumerate_from k l)
    by k [] m le = All-nil (λ (y : Numbered). (k ≤ y.0) × (y.0 < m))
    by k (e ∷ l) m le = All-cons (λ (y : Numbered). (k ≤ y.0) × (y.0 < m)) (k, e) (enumerate_from (k + 1) l) (omega arith, omega arith) (weaker k m (enumerate_from (k + 1) l) (by (k + 1) l m (omega arith)))
      where
        weaker : (k m : ℕ) (xs : List Numbered) → All (λ (y : Numbered). (k + 1 ≤ y.0) × (y.0 < m)) xs → All (λ (y : Numbered). (k ≤ y.0) × (y.0 < m)) xs
        weaker k m [] all = All-nil (λ (y : Numbered). (k ≤ y.0) × (y.0 < m))
        weaker k m (x ∷ xs) all =
            let here = All-head (λ (y : Numbered). (k + 1 ≤ y.0) × (y.0 < m)) x xs all in
            let low = here.0 in
            All-cons (λ (y : Numbered). (k ≤ y.0) × (y.0 < m)) x xs (omega arith, here.1) (weaker k m xs (All-tail (λ (y : Numbered). (k + 1 ≤ y.0) × (y.0 < m)) x xs all))

-- good events are so without the last ones
pub good_front : (q : Plan) (xs ys : List Event) → Good q (xs ++ ys) → Good q xs
good_front q xs ys good = (
  all_front (λ e. fits q e ≡ true) xs ys good.0,
  λ i j x y le at there. good.1 i j x y le (get_front xs ys i (slice_get_within xs i x at) ∙ at) (get_front xs ys j (slice_get_within xs j y there) ∙ there),
)

-- and without the first ones
pub good_back : (q : Plan) (xs ys : List Event) → Good q (xs ++ ys) → Good q ys
good_back q xs ys good = (
  all_back (λ e. fits q e ≡ true) xs ys good.0,
  λ i j x y le at there. good.1 (length xs + i) (length xs + j) x y (omega arith) (get_behind xs ys i ∙ at) (get_behind xs ys j ∙ there),
)

-- stamps ascend behind the first events
pub ascending_back : (xs ys : List Event) → Ascending (xs ++ ys) → Ascending ys
ascending_back [] ys up = up
ascending_back (x ∷ xs) ys up = ascending_back xs ys up.1

-- the last of events in two parts
pub last_behind : {X : Type 0} (o : Option X) (xs : List X) (y : X) (ys : List X) → last_or o (xs ++ y ∷ ys) ≡ last_or (Some y) ys
last_behind o [] y ys = refl
last_behind o (x ∷ xs) y ys = last_behind (Some x) xs y ys

-- what the times of good events in two parts keep
pub record Crossed (xs : List Event) (y : Event) (ys : List Event) : Type 0 where
  pub before : last_stamp xs ≤ stamp y
  pub later : All (λ z. stamp y ≤ stamp z) (y ∷ ys)
  pub end : stamp y ≤ last_stamp (xs ++ y ∷ ys)
  pub same_end : last_stamp (xs ++ y ∷ ys) ≡ last_stamp (y ∷ ys)

pub crossed : (q : Plan) (xs : List Event) (y : Event) (ys : List Event) → Good q (xs ++ y ∷ ys) → Crossed xs y ys
crossed q xs y ys good =
    let whole = rising q (xs ++ y ∷ ys) good in
    let up = ascending_back xs (y ∷ ys) whole.up in
    record {
      before = (good_less q xs y (good_front q (xs ++ y ∷ []) ys (subst (Good q) (sym (append_assoc xs (y ∷ []) ys)) good))).rises;
      later = All-cons (λ z. stamp y ≤ stamp z) y ys (omega arith) up.0;
      end = All-head (λ z. stamp z ≤ last_stamp (xs ++ y ∷ ys)) y ys (all_back (λ z. stamp z ≤ last_stamp (xs ++ y ∷ ys)) xs (y ∷ ys) whole.low);
      same_end = ap stamp_or_zero (last_behind None xs y ys);
    }
