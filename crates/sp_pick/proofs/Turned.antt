-- Labels over the open groups of a version, the membership of one group turned round, and the first label that is free.
use Rattle.std.proofs.Common.{◌≡◌, ◌≢◌, ℕ, zero, suc, ◌+◌, ◌<◌, ◌≤◌, Bool, true, false, not, cond, ◌==◌, ◌&&◌, ◌||◌, List, [], ◌∷◌, ◌++◌, map, length, get_or, take, drop, refl, sym, ap, subst, ◌∙◌, arith, inl, inr, All, filter}
use Rattle.std.specs.Prelude.{nat_lt}
use Rattle.std.specs.List.Sorted.{IsStrictlyIncreasing}
use Rattle.std.proofs.lemmas.Bool.{false≢true, and_parts, and_from, or_parts, ltb-true, lt-ltb, eq-eqb, eqb-true, cases_lt}
use Rattle.std.proofs.lemmas.Bool.Decides.{nat_tests}
use Rattle.std.proofs.lemmas.List.Elements.{All-nil, All-cons}
use Rattle.sp_base.specs.Numbers.{is_among, with_number}
use Rattle.sp_group.specs.Rising.{IsLabel}
use Rattle.sp_pick.specs.Turning.{turned_round}
use Rattle.sp_pick.proofs.Searched.{among_at}

-- whether numbers rise strictly from above the last one
abbrev pub rises : ℕ → List ℕ → Bool
rises last [] = true
rises last (run ∷ runs) = nat_lt last run && rises run runs

-- the test with one number turned round
abbrev pub but_for : ℕ → (ℕ → Bool) → ℕ → Bool
but_for turn p run = cond (run == turn) (not (p run)) (p run)

lower : (low high : ℕ) (xs : List ℕ) → low ≤ high → rises high xs ≡ true → rises low xs ≡ true
lower low high [] h r = refl
lower low high (x ∷ xs) h r =
    let parts = and_parts (nat_lt high x) (rises x xs) r in
    let above = ltb-true high x parts.0 in
    and_from (nat_lt low x) (rises x xs) (lt-ltb low x (omega arith)) parts.1

-- some of rising numbers rise
filter_rises : (p : ℕ → Bool) (last : ℕ) (xs : List ℕ) → rises last xs ≡ true → rises last (filter p xs) ≡ true
filter_rises p last [] r = refl
filter_rises p last (x ∷ xs) r =
    let parts = and_parts (nat_lt last x) (rises x xs) r in
    one (p x) parts.0 (filter_rises p x xs parts.1)
  where
    one : (b : Bool) → nat_lt last x ≡ true → rises x (filter p xs) ≡ true → rises last (cond b (x ∷ filter p xs) (filter p xs)) ≡ true
    one true less rest = and_from (nat_lt last x) (rises x (filter p xs)) less rest
    one false less rest = let above = ltb-true last x less in lower last x (filter p xs) (omega arith) rest

-- none of them is one that they rise above
none_below : (last r : ℕ) (xs : List ℕ) → r ≤ last → rises last xs ≡ true → is_among xs r ≡ false
none_below last r [] h rise = refl
none_below last r (x ∷ xs) h rise =
    let parts = and_parts (nat_lt last x) (rises x xs) rise in
    let above = ltb-true last x parts.0 in
    let other : (x == r) ≡ false = grind (arith, nat_tests) in
    ap (λ (b : Bool). b || is_among xs r) other ∙ none_below x r xs (omega arith) parts.1

increase : (last : ℕ) (xs : List ℕ) → rises last xs ≡ true → IsStrictlyIncreasing xs
increase last [] rise k within = absurd (omega arith)
increase last (x ∷ []) rise k within = absurd (omega arith)
increase last (x ∷ y ∷ ys) rise zero within = ltb-true x y (and_parts (nat_lt x y) (rises y ys) (and_parts (nat_lt last x) (rises x (y ∷ ys)) rise).1).0
increase last (x ∷ y ∷ ys) rise (suc k) within =
    let rest = increase x (y ∷ ys) (and_parts (nat_lt last x) (rises x (y ∷ ys)) rise).1 k (omega arith) in
    subst (λ n. get_or (y ∷ ys) k 0 < get_or (x ∷ y ∷ ys) n 0) (more k) rest
  where
    more : (k : ℕ) → suc (k + 1) ≡ suc k + 1
    more k = omega arith

pub above_zero : (last : ℕ) (xs : List ℕ) → rises last xs ≡ true → All (λ r. r ≢ 0) xs
above_zero last [] rise = All-nil (λ r. r ≢ 0)
above_zero last (x ∷ xs) rise =
    let parts = and_parts (nat_lt last x) (rises x xs) rise in
    let above = ltb-true last x parts.0 in
    All-cons (λ r. r ≢ 0) x xs (λ is. absurd (omega arith)) (above_zero x xs parts.1)

is_label : (xs : List ℕ) → rises 0 xs ≡ true → IsLabel xs
is_label xs rise = record { rising = increase 0 xs rise; given = above_zero 0 xs rise }

-- what is above the turned number is as it was
untouched : (r last : ℕ) (p : ℕ → Bool) (xs : List ℕ) → r ≤ last → rises last xs ≡ true → filter (but_for r p) xs ≡ filter p xs
untouched r last p [] h rise = refl
untouched r last p (x ∷ xs) h rise =
    let parts = and_parts (nat_lt last x) (rises x xs) rise in
    let above = ltb-true last x parts.0 in
    let other : (x == r) ≡ false = grind (arith, nat_tests) in
    let same : but_for r p x ≡ p x = ap (λ (b : Bool). cond b (not (p x)) (p x)) other in
    ap (λ (b : Bool). cond b (x ∷ filter (but_for r p) xs) (filter (but_for r p) xs)) same
    ∙ ap (λ (l : List ℕ). cond (p x) (x ∷ l) l) (untouched r x p xs (omega arith) parts.1)

-- the numbers but for one
abbrev pub others_of : ℕ → List ℕ → List ℕ
others_of r xs = filter (λ x. not (x == r)) xs

-- the number taken out where it is not in
not_in : (r : ℕ) (xs : List ℕ) → is_among xs r ≡ false → others_of r xs ≡ xs
not_in r [] out = refl
not_in r (x ∷ xs) out =
    let parts = or_parts (x == r) (is_among xs r) out in
    ap (λ (b : Bool). cond (not b) (x ∷ others_of r xs) (others_of r xs)) parts.0 ∙ ap (λ (l : List ℕ). x ∷ l) (not_in r xs parts.1)

-- taken in before all that are above it
in_front : (r last : ℕ) (xs : List ℕ) → r ≤ last → rises last xs ≡ true → with_number xs r ≡ r ∷ xs
in_front r last [] h rise = refl
in_front r last (x ∷ xs) h rise =
    let parts = and_parts (nat_lt last x) (rises x xs) rise in
    let above = ltb-true last x parts.0 in
    ap (λ (b : Bool). cond b (r ∷ x ∷ xs) (cond (x == r) (x ∷ xs) (x ∷ with_number xs r))) (lt-ltb r x (omega arith))

-- a label turned round at its first run, before all its runs, and behind its first run
turned_here : (r x : ℕ) (xs : List ℕ) → (x == r) ≡ true → is_among xs r ≡ false → turned_round (x ∷ xs) r ≡ xs
turned_here r x xs is out =
    ap (λ (b : Bool). cond (b || is_among xs r) (cond (not b) (x ∷ others_of r xs) (others_of r xs)) (with_number (x ∷ xs) r)) is ∙ not_in r xs out

turned_before : (r last : ℕ) (xs : List ℕ) → r ≤ last → rises last xs ≡ true → turned_round xs r ≡ r ∷ xs
turned_before r last xs h rise = ap (λ (b : Bool). cond b (others_of r xs) (with_number xs r)) (none_below last r xs h rise) ∙ in_front r last xs h rise

turned_behind : (r x : ℕ) (xs : List ℕ) → x < r → turned_round (x ∷ xs) r ≡ x ∷ turned_round xs r
turned_behind r x xs less =
    let other : (x == r) ≡ false = grind (arith, nat_tests) in
    let low : nat_lt r x ≡ false = grind (arith, nat_tests) in
    ap (λ (b : Bool). cond (b || is_among xs r) (cond (not b) (x ∷ others_of r xs) (others_of r xs)) (with_number (x ∷ xs) r)) other
    ∙ ap (λ (b : Bool). cond (is_among xs r) (x ∷ others_of r xs) (cond b (r ∷ x ∷ xs) (cond (x == r) (x ∷ xs) (x ∷ with_number xs r)))) low
    ∙ ap (λ (b : Bool). cond (is_among xs r) (x ∷ others_of r xs) (cond b (x ∷ xs) (x ∷ with_number xs r))) other
    ∙ inside (is_among xs r)
  where
    inside : (b : Bool) → cond b (x ∷ others_of r xs) (x ∷ with_number xs r) ≡ x ∷ cond b (others_of r xs) (with_number xs r)
    inside true = refl
    inside false = refl

-- a filtered label, turned round at one of the runs, is filtered by the turned test
pub turned_filter : (p : ℕ → Bool) (r last : ℕ) (xs : List ℕ) → rises last xs ≡ true → is_among xs r ≡ true → turned_round (filter p xs) r ≡ filter (but_for r p) xs
turned_filter p r last [] rise there = absurd (false≢true there)
turned_filter p r last (x ∷ xs) rise there =
    let parts = and_parts (nat_lt last x) (rises x xs) rise in one parts.1 (x == r) refl (p x) refl (λ among. turned_filter p r x xs parts.1 among) there
  where
    own_run : (q : Bool) → x ≡ r → is_among (filter p xs) r ≡ false → rises x xs ≡ true → turned_round (cond q (x ∷ filter p xs) (filter p xs)) r ≡ cond (not q) (x ∷ filter p xs) (filter p xs)
    own_run true own out rise = turned_here r x (filter p xs) (eq-eqb x r own) out
    own_run false own out rise = turned_before r x (filter p xs) (omega arith) (filter_rises p x xs rise) ∙ ap (λ n. n ∷ filter p xs) (sym own)

    other_run : (q : Bool) → x < r → turned_round (filter p xs) r ≡ filter (but_for r p) xs
        → turned_round (cond q (x ∷ filter p xs) (filter p xs)) r ≡ cond q (x ∷ filter (but_for r p) xs) (filter (but_for r p) xs)
    other_run true less rest = turned_behind r x (filter p xs) less ∙ ap (λ (l : List ℕ). x ∷ l) rest
    other_run false less rest = rest

    above_it : is_among xs r ≡ true → rises x xs ≡ true → x < r
    above_it among rise = elim (cases_lt x r) [ inl less ↦ less | inr low ↦ absurd (false≢true (sym (none_below x r xs low rise) ∙ among)) ]

    one : rises x xs ≡ true → (b : Bool) → (x == r) ≡ b → (q : Bool) → p x ≡ q → (is_among xs r ≡ true → turned_round (filter p xs) r ≡ filter (but_for r p) xs)
        → (x == r || is_among xs r) ≡ true → turned_round (cond (p x) (x ∷ filter p xs) (filter p xs)) r ≡ cond (cond (x == r) (not (p x)) (p x)) (x ∷ filter (but_for r p) xs) (filter (but_for r p) xs)
    one rise true is q passes rest there =
        let own = eqb-true x r is in
        let out = none_below x r (filter p xs) (omega arith) (filter_rises p x xs rise) in
        let same = untouched r x p xs (omega arith) rise in
        let right : cond (cond (x == r) (not (p x)) (p x)) (x ∷ filter (but_for r p) xs) (filter (but_for r p) xs) ≡ cond (not q) (x ∷ filter p xs) (filter p xs) =
        ap (λ (b : Bool). cond (cond b (not (p x)) (p x)) (x ∷ filter (but_for r p) xs) (filter (but_for r p) xs)) is
        ∙ ap (λ (b : Bool). cond (not b) (x ∷ filter (but_for r p) xs) (filter (but_for r p) xs)) passes
        ∙ ap (λ (l : List ℕ). cond (not q) (x ∷ l) l) same in
        ap (λ (b : Bool). turned_round (cond b (x ∷ filter p xs) (filter p xs)) r) passes ∙ own_run q own out rise ∙ sym right
    one rise false is q passes rest there =
        let among : is_among xs r ≡ true = sym (ap (λ (b : Bool). b || is_among xs r) is) ∙ there in
        let less : x < r = above_it among rise in
        let right : cond (cond (x == r) (not (p x)) (p x)) (x ∷ filter (but_for r p) xs) (filter (but_for r p) xs) ≡ cond q (x ∷ filter (but_for r p) xs) (filter (but_for r p) xs) =
        ap (λ (b : Bool). cond (cond b (not (p x)) (p x)) (x ∷ filter (but_for r p) xs) (filter (but_for r p) xs)) is
        ∙ ap (λ (b : Bool). cond b (x ∷ filter (but_for r p) xs) (filter (but_for r p) xs)) passes in
        ap (λ (b : Bool). turned_round (cond b (x ∷ filter p xs) (filter p xs)) r) passes ∙ other_run q less (rest among) ∙ sym right

-- and back
pub turned_back : (p : ℕ → Bool) (r : ℕ) (xs : List ℕ) → filter (but_for r (but_for r p)) xs ≡ filter p xs
turned_back p r [] = refl
turned_back p r (x ∷ xs) =
    ap (λ (b : Bool). cond b (x ∷ filter (but_for r (but_for r p)) xs) (filter (but_for r (but_for r p)) xs)) (twice (x == r) (p x))
    ∙ ap (λ (l : List ℕ). cond (p x) (x ∷ l) l) (turned_back p r xs)
  where
    twice : (b q : Bool) → cond b (not (cond b (not q) q)) (cond b (not q) q) ≡ q
    twice true true = refl
    twice true false = refl
    twice false q = refl

-- the candidates up to one, that one, and those behind it
pub parts_at : (f : ℕ → List ℕ) (xs : List ℕ) (i d : ℕ) → i < length xs → map f xs ≡ map f (take i xs) ++ f (get_or xs i d) ∷ map f (drop (suc i) xs)
parts_at f [] i d within = absurd (omega arith)
parts_at f (x ∷ xs) zero d within = refl
parts_at f (x ∷ xs) (suc i) d within = ap (λ (l : List (List ℕ)). f x ∷ l) (parts_at f xs i d (omega arith))

-- a label rises from above 0, and so do some of its runs
tail_increases : (x : ℕ) (xs : List ℕ) → IsStrictlyIncreasing (x ∷ xs) → IsStrictlyIncreasing xs
tail_increases x xs h k within = subst (λ n. get_or (x ∷ xs) n 0 < get_or (x ∷ xs) (n + 1) 0 → get_or xs k 0 < get_or xs (k + 1) 0) (one k) (moved k) (h (k + 1) (omega arith))
  where
    one : (k : ℕ) → suc k ≡ k + 1
    one k = omega arith

    next : (k : ℕ) → suc k + 1 ≡ suc (k + 1)
    next k = omega arith

    moved : (k : ℕ) → get_or (x ∷ xs) (suc k) 0 < get_or (x ∷ xs) (suc k + 1) 0 → get_or xs k 0 < get_or xs (k + 1) 0
    moved k less = subst (λ n. get_or xs k 0 < get_or (x ∷ xs) n 0) (next k) less

rise_from : (last : ℕ) (xs : List ℕ) → IsStrictlyIncreasing xs → (0 < length xs → last < get_or xs 0 0) → rises last xs ≡ true
rise_from last [] h low = refl
rise_from last (x ∷ xs) h low =
    and_from (nat_lt last x) (rises x xs) (lt-ltb last x (low (omega arith)))
    (rise_from x xs (tail_increases x xs h) (λ some. subst (λ n. x < get_or (x ∷ xs) n 0) (sym one) (h 0 (omega arith))))
  where
    one : 1 ≡ 0 + 1
    one = refl

pub label_rises : (gs : List ℕ) → IsLabel gs → rises 0 gs ≡ true
label_rises gs h = rise_from 0 gs h.rising (λ some. let other = h.given 0 0 some in above (get_or gs 0 0) other)
  where
    above : (n : ℕ) → n ≢ 0 → 0 < n
    above zero other = absurd (other refl)
    above (suc n) other = omega arith

pub label_filter : (p : ℕ → Bool) (gs : List ℕ) → IsLabel gs → IsLabel (filter p gs)
label_filter p gs h = is_label (filter p gs) (filter_rises p 0 gs (label_rises gs h))
