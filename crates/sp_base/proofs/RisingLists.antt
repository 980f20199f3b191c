-- Rising lists that take in numbers: what is among them, and that they rise.
use Rattle.std.proofs.Common.{◌≡◌, ℕ, zero, suc, ◌+◌, ◌<◌, ◌⊎◌, Bool, true, false, cond, ◌||◌, ◌==◌, nat_lt, List, [], ◌∷◌, ◌++◌, length, slice_index, ⊎_elim, inl, inr, refl, sym, ap, ◌∙◌, subst, arith}
use Rattle.std.specs.Prelude.{⊤}
use Rattle.std.specs.List.Sorted.{IsStrictlyIncreasing}
use Rattle.std.proofs.lemmas.Bool.Decides.{nat_tests}
use Rattle.std.proofs.lemmas.List.Sums.{fold-append}
use Rattle.sp_base.specs.Numbers.{RisingSame, is_among, with_number, with_numbers}
use Rattle.sp_base.proofs.Rising.{rising_same as same_numbers}

or_cases : (a b : Bool) → (a || b) ≡ true → (a ≡ true) ⊎ (b ≡ true)
or_cases true b h = inl refl
or_cases false b h = inr h

or_left : (a b : Bool) → a ≡ true → (a || b) ≡ true
or_left true b h = refl
or_left false b h = absurd (cc)

or_right : (a b : Bool) → b ≡ true → (a || b) ≡ true
or_right true b h = refl
or_right false b h = h

either_way : (a b : Bool) → (a ≡ true → b ≡ true) → (b ≡ true → a ≡ true) → a ≡ b
either_way true b f g = sym (f refl)
either_way false true f g = g refl
either_way false false f g = refl

or_last : (a b c : Bool) → (a || (b || c)) ≡ ((b || c) || a)
or_last true true c = refl
or_last true false true = refl
or_last true false false = refl
or_last false true c = refl
or_last false false true = refl
or_last false false false = refl

or_again : (a b : Bool) → (a || b) ≡ ((a || b) || a)
or_again true b = refl
or_again false true = refl
or_again false false = refl

or_in : (a b c : Bool) → (a || (b || c)) ≡ ((a || b) || c)
or_in true b c = refl
or_in false b c = refl

or_none : (a : Bool) → a ≡ (a || false)
or_none true = refl
or_none false = refl

-- what is among a list with one number more
pub among_number : (ms : List ℕ) (n i : ℕ) → is_among (with_number ms n) i ≡ (is_among ms i || n == i)
among_number [] n i = sym (or_none (n == i))
among_number (m ∷ ms) n i = one (nat_lt n m) (m == n) refl (among_number ms n i)
  where
    one : (b c : Bool) → (m == n) ≡ c → is_among (with_number ms n) i ≡ (is_among ms i || n == i)
        → is_among (cond b (n ∷ m ∷ ms) (cond c (m ∷ ms) (m ∷ with_number ms n))) i ≡ ((m == i || is_among ms i) || n == i)
    one true c e ih = or_last (n == i) (m == i) (is_among ms i)
    one false true e ih =
        let same : m ≡ n = grind (arith, nat_tests) in
        or_again (m == i) (is_among ms i) ∙ ap (λ (z : ℕ). (m == i || is_among ms i) || z == i) same
    one false false e ih = ap (λ (z : Bool). m == i || z) ih ∙ or_in (m == i) (is_among ms i) (n == i)

-- what is among a list with these numbers more
pub among_numbers : (ms ns : List ℕ) (i : ℕ) → is_among (with_numbers ms ns) i ≡ (is_among ms i || is_among ns i)
among_numbers ms [] i = or_none (is_among ms i)
among_numbers ms (n ∷ ns) i =
    among_numbers (with_number ms n) ns i ∙ ap (λ (z : Bool). z || is_among ns i) (among_number ms n i) ∙ sym (or_in (is_among ms i) (n == i) (is_among ns i))

pub mem_left : (i : ℕ) (ms ns : List ℕ) → is_among ms i ≡ true → is_among (with_numbers ms ns) i ≡ true
mem_left i ms ns h = among_numbers ms ns i ∙ or_left (is_among ms i) (is_among ns i) h

pub mem_right : (i : ℕ) (ms ns : List ℕ) → is_among ns i ≡ true → is_among (with_numbers ms ns) i ≡ true
mem_right i ms ns h = among_numbers ms ns i ∙ or_right (is_among ms i) (is_among ns i) h

pub mem_cases : (i : ℕ) (ms ns : List ℕ) → is_among (with_numbers ms ns) i ≡ true → (is_among ms i ≡ true) ⊎ (is_among ns i ≡ true)
mem_cases i ms ns h = or_cases (is_among ms i) (is_among ns i) (sym (among_numbers ms ns i) ∙ h)

-- numbers more, in two parts
pub numbers_append : (ms ns ks : List ℕ) → with_numbers ms (ns ++ ks) ≡ with_numbers (with_numbers ms ns) ks
numbers_append ms ns ks = fold-append with_number ms ns ks

-- what is among the numbers of a list, put in order
pub among_sorted : (ns : List ℕ) (i : ℕ) → is_among (with_numbers [] ns) i ≡ is_among ns i
among_sorted ns i = among_numbers [] ns i

-- each number of a list is below all those behind it
abbrev pub Rises : List ℕ → Type 0
Rises [] = ⊤
Rises (x ∷ xs) = ((r : ℕ) → is_among xs r ≡ true → x < r) × Rises xs

tail_increases : (x : ℕ) (xs : List ℕ) → IsStrictlyIncreasing (x ∷ xs) → IsStrictlyIncreasing xs
tail_increases x xs h k l =
    let at : suc k + 1 ≡ suc (k + 1) = omega arith in
    subst (λ (j : ℕ). slice_index xs k < slice_index (x ∷ xs) j) at (h (suc k) (omega (arith, l)))

-- in a list that increases each number is below all those behind it
pub rises : (xs : List ℕ) → IsStrictlyIncreasing xs → Rises xs
rises [] h = tt
rises (x ∷ xs) h = (first_below xs h (rises xs (tail_increases x xs h)), rises xs (tail_increases x xs h))
  where
    first_below : (xs : List ℕ) → IsStrictlyIncreasing (x ∷ xs) → Rises xs → (r : ℕ) → is_among xs r ≡ true → x < r
    first_below [] h up r m = absurd (cc)
    first_below (y ∷ ys) h up r m =
        let low : x < y = h 0 (omega arith) in
        ⊎_elim (λ (e : (y == r) ≡ true). grind (arith, nat_tests)) (λ (e : is_among ys r ≡ true). let next = up.0 r e in omega arith) (or_cases (y == r) (is_among ys r) m)

pub increases : (xs : List ℕ) → Rises xs → IsStrictlyIncreasing xs
increases [] up k l = absurd (omega (arith, l))
increases (x ∷ xs) up zero l = first_two xs up l
  where
    first_two : (xs : List ℕ) → Rises (x ∷ xs) → 1 < length (x ∷ xs) → x < slice_index (x ∷ xs) 1
    first_two [] up l = absurd (omega (arith, l))
    first_two (y ∷ ys) up l = up.0 y (grind (arith, nat_tests))
increases (x ∷ xs) up (suc k) l =
    let at : suc (k + 1) ≡ suc k + 1 = omega arith in
    subst (λ (j : ℕ). slice_index xs k < slice_index (x ∷ xs) j) at (increases xs up.1 k (omega (arith, l)))

number_rises : (ms : List ℕ) (n : ℕ) → Rises ms → Rises (with_number ms n)
number_rises [] n up = ((λ r m. absurd (cc)), tt)
number_rises (m ∷ ms) n up = one (nat_lt n m) (m == n) refl refl (number_rises ms n up.1)
  where
    one : (b c : Bool) → nat_lt n m ≡ b → (m == n) ≡ c → Rises (with_number ms n) → Rises (cond b (n ∷ m ∷ ms) (cond c (m ∷ ms) (m ∷ with_number ms n)))
    one true c less e ih =
        let low : n < m = grind (arith, nat_tests) in
        ((λ r k. ⊎_elim (λ (y : (m == r) ≡ true). grind (arith, nat_tests)) (λ (y : is_among ms r ≡ true). let next = up.0 r y in omega arith) (or_cases (m == r) (is_among ms r) k)), up)
    one false true less e ih = up
    one false false less e ih =
        let low : m < n = grind (arith, nat_tests) in
        ((λ r k. ⊎_elim (λ (y : is_among ms r ≡ true). up.0 r y) (λ (y : (n == r) ≡ true). grind (arith, nat_tests)) (or_cases (is_among ms r) (n == r) (sym (among_number ms n r) ∙ k))), ih)

numbers_up : (ms ns : List ℕ) → Rises ms → Rises (with_numbers ms ns)
numbers_up ms [] up = up
numbers_up ms (n ∷ ns) up = numbers_up (with_number ms n) ns (number_rises ms n up)

-- a rising list still rises with these numbers more
pub numbers_rise : (ms ns : List ℕ) → IsStrictlyIncreasing ms → IsStrictlyIncreasing (with_numbers ms ns)
numbers_rise ms ns rising = increases (with_numbers ms ns) (numbers_up ms ns (rises ms rising))

-- rising lists with the same members are the same
pub rising_same : (xs ys : List ℕ) → IsStrictlyIncreasing xs → IsStrictlyIncreasing ys → ((r : ℕ) → is_among xs r ≡ true → is_among ys r ≡ true) → ((r : ℕ) → is_among ys r ≡ true → is_among xs r ≡ true) → xs ≡ ys
rising_same xs ys hx hy a b = same_numbers xs ys hx hy (λ r. either_way (is_among xs r) (is_among ys r) (a r) (b r))

-- a rising list that has the numbers of both is the one with the others' numbers more
pub union_is : RisingSame → (ms ns ks : List ℕ) → IsStrictlyIncreasing ms → IsStrictlyIncreasing ks → ((i : ℕ) → is_among ks i ≡ (is_among ms i || is_among ns i)) → ks ≡ with_numbers ms ns
union_is law ms ns ks rising up members = law ks (with_numbers ms ns) up (numbers_rise ms ns rising) (λ i. members i ∙ sym (among_numbers ms ns i))

same_test : (a b : ℕ) → (a == b) ≡ (b == a)
same_test a b = one (a == b) (b == a) refl refl
  where
    one : (x y : Bool) → (a == b) ≡ x → (b == a) ≡ y → (a == b) ≡ (b == a)
    one true true e f = e ∙ sym f
    one false false e f = e ∙ sym f
    one true false e f = grind (arith, nat_tests)
    one false true e f = grind (arith, nat_tests)

turned : (a b : Bool) → (a || b) ≡ (b || a)
turned true true = refl
turned true false = refl
turned false true = refl
turned false false = refl

-- a rising list that has one number more is the one that took it in
pub put_is : RisingSame → (ms : List ℕ) (n : ℕ) (ks : List ℕ) → IsStrictlyIncreasing ms → IsStrictlyIncreasing ks → ((i : ℕ) → is_among ks i ≡ (i == n || is_among ms i)) → ks ≡ with_number ms n
put_is law ms n ks rising up members =
    law ks (with_number ms n) up (numbers_rise ms (n ∷ []) rising)
    (λ i. members i ∙ turned (i == n) (is_among ms i) ∙ ap (λ (b : Bool). is_among ms i || b) (same_test i n) ∙ sym (among_number ms n i))

-- the groups of a version with a run that was taken in
pub taken_in : (old new : List ℕ) (run : ℕ) → new ≡ with_number old run → (r : ℕ) → is_among new r ≡ (is_among old r || r == run)
taken_in old new run is r = ap (λ (l : List ℕ). is_among l r) is ∙ among_number old run r ∙ ap (λ (b : Bool). is_among old r || b) (same_test run r)
