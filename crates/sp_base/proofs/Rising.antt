-- Rising lists by recursion, and what is among their numbers.
use Rattle.std.proofs.Common.{◌≡◌, ℕ, zero, suc, ◌+◌, ◌<◌, ◌≤◌, Bool, true, false, ◌||◌, ◌==◌, List, [], ◌∷◌, ◌++◌, length, get_or, refl, sym, ap, subst, ◌∙◌, arith, inl, inr}
use Rattle.std.specs.List.{AllByRecursion}
use Rattle.std.specs.List.Sorted.{IsStrictlyIncreasing}
use Rattle.std.proofs.lemmas.Bool.{cases_eq}
use Rattle.std.proofs.lemmas.Bool.Decides.{nat_tests}
use Rattle.sp_base.specs.Numbers.{RisingSame, is_among}

-- each number is above this one, below it
abbrev pub Above : ℕ → List ℕ → Type 0
Above n ns = AllByRecursion (λ m. n < m) ns

abbrev pub Below : ℕ → List ℕ → Type 0
Below n ns = AllByRecursion (λ m. m < n) ns

-- each number is below all later ones
abbrev pub Rises : List ℕ → Type 0
Rises [] = Unit {0}
Rises (n ∷ ns) = Above n ns × Rises ns

pub above_lower : (m n : ℕ) (ns : List ℕ) → m < n → Above n ns → Above m ns
above_lower m n [] h above = tt
above_lower m n (x ∷ xs) h above =
    let first : n < x = above.0 in
    (omega arith, above_lower m n xs h above.1)

next_rising : (n : ℕ) (ns : List ℕ) → IsStrictlyIncreasing (n ∷ ns) → IsStrictlyIncreasing ns
next_rising n ns h = λ k within.
    let at : suc k + 1 < suc (length ns) = omega arith in
    let next : suc k + 1 ≡ suc (k + 1) = omega arith in
    subst (λ i. get_or ns k 0 < get_or (n ∷ ns) i 0) next (h (suc k) at)

pub rises_from : (ns : List ℕ) → IsStrictlyIncreasing ns → Rises ns
rises_from [] h = tt
rises_from (n ∷ []) h = (tt, tt)
rises_from (n ∷ m ∷ ns) h =
    let rest = rises_from (m ∷ ns) (next_rising n (m ∷ ns) h) in
    let first : n < m = h 0 (omega arith) in
    ((first, above_lower n m ns first rest.0), rest)

pub rising_from : (ns : List ℕ) → Rises ns → IsStrictlyIncreasing ns
rising_from [] h = λ k within. absurd (omega arith)
rising_from (n ∷ []) h = λ k within. absurd (omega arith)
rising_from (n ∷ m ∷ ns) h = λ k. elim k as (λ k. k + 1 < suc (suc (length ns)) → get_or (n ∷ m ∷ ns) k 0 < get_or (n ∷ m ∷ ns) (k + 1) 0) [
  | zero ↦ λ within. h.0.0
  | suc j ↦ λ within.
      (let next : suc (j + 1) ≡ suc j + 1 = omega arith in
      subst (λ i. get_or (m ∷ ns) j 0 < get_or (n ∷ m ∷ ns) i 0) next (rising_from (m ∷ ns) h.1 j (omega arith)))
]

pub not_above : (n : ℕ) (ns : List ℕ) → Above n ns → is_among ns n ≡ false
not_above n [] h = refl
not_above n (m ∷ ns) h =
    let first : n < m = h.0 in
    let rest : is_among ns n ≡ false = not_above n ns h.1 in
    grind (arith, nat_tests)

pub not_below : (n : ℕ) (ns : List ℕ) → Below n ns → is_among ns n ≡ false
not_below n [] h = refl
not_below n (m ∷ ns) h =
    let first : m < n = h.0 in
    let rest : is_among ns n ≡ false = not_below n ns h.1 in
    grind (arith, nat_tests)

-- a number that is among numbers above this one is above it
pub above_this : (m n : ℕ) (ns : List ℕ) → Above m ns → is_among ns n ≡ true → m < n
above_this m n [] h there = cc
above_this m n (x ∷ xs) h there =
    let first : m < x = h.0 in
    elim (cases_eq x n) [
      | inl e ↦ omega arith
      | inr e ↦ (let rest : is_among xs n ≡ true = grind (arith, nat_tests) in above_this m n xs h.1 rest)
    ]

-- the first number of two rising lists with the same numbers is the same
first_at_least : (x y : ℕ) (xs ys : List ℕ) → Above y ys → ((n : ℕ) → is_among (x ∷ xs) n ≡ is_among (y ∷ ys) n) → y ≤ x
first_at_least x y xs ys above same =
    let there : is_among (y ∷ ys) x ≡ true = sym (same x) ∙ grind (arith, nat_tests) in
    elim (cases_eq y x) [
      | inl e ↦ omega arith
      | inr e ↦ (let rest : is_among ys x ≡ true = grind (arith, nat_tests) in let more : y < x = above_this y x ys above rest in omega arith)
    ]

same_rest : (x : ℕ) (xs ys : List ℕ) → Above x xs → Above x ys → ((n : ℕ) → is_among (x ∷ xs) n ≡ is_among (x ∷ ys) n) → (n : ℕ) → is_among xs n ≡ is_among ys n
same_rest x xs ys above other same n =
    elim (cases_eq x n) [
      | inl e ↦ subst (λ k. is_among xs k ≡ is_among ys k) e (not_above x xs above ∙ sym (not_above x ys other))
      | inr e ↦ (let whole = same n in grind (arith, nat_tests))
    ]

same_lists : (ms ns : List ℕ) → Rises ms → Rises ns → ((n : ℕ) → is_among ms n ≡ is_among ns n) → ms ≡ ns
same_lists [] [] g h same = refl
same_lists [] (n ∷ ns) g h same = let no = same n in absurd (grind (arith, nat_tests))
same_lists (m ∷ ms) [] g h same = let no = same m in absurd (grind (arith, nat_tests))
same_lists (m ∷ ms) (n ∷ ns) g h same =
    let low : n ≤ m = first_at_least m n ms ns h.0 same in
    let high : m ≤ n = first_at_least n m ns ms g.0 (λ k. sym (same k)) in
    let one : n ≡ m = omega arith in
    let above : Above m ns = subst (λ k. Above k ns) one h.0 in
    let all : (k : ℕ) → is_among (m ∷ ms) k ≡ is_among (m ∷ ns) k = subst (λ j. (k : ℕ) → is_among (m ∷ ms) k ≡ is_among (j ∷ ns) k) one same in
    ap (λ (l : List ℕ). m ∷ l) (same_lists ms ns g.1 h.1 (same_rest m ms ns g.0 above all)) ∙ ap (λ k. k ∷ ns) (sym one)

or_assoc : (a b c : Bool) → (a || (b || c)) ≡ (a || b || c)
or_assoc true b c = refl
or_assoc false b c = refl

pub has_append : (xs ys : List ℕ) (n : ℕ) → is_among (xs ++ ys) n ≡ (is_among xs n || is_among ys n)
has_append [] ys n = refl
has_append (x ∷ xs) ys n = ap (λ t. x == n || t) (has_append xs ys n) ∙ or_assoc (x == n) (is_among xs n) (is_among ys n)

-- a number between those in front, all below it, and those behind, all above it
above_inserted : (x n : ℕ) (xs ys : List ℕ) → x < n → Above x (xs ++ ys) → Above x (xs ++ n ∷ ys)
above_inserted x n [] ys h above = (h, above)
above_inserted x n (m ∷ ms) ys h above = (above.0, above_inserted x n ms ys h above.1)

pub rises_inserted : (xs ys : List ℕ) (n : ℕ) → Rises (xs ++ ys) → Below n xs → Above n ys → Rises (xs ++ n ∷ ys)
rises_inserted [] ys n rises below above = (above, rises)
rises_inserted (x ∷ xs) ys n rises below above = (above_inserted x n xs ys below.0 rises.0, rises_inserted xs ys n rises.1 below.1 above)

pub rises_behind : (xs ys : List ℕ) → Rises (xs ++ ys) → Rises ys
rises_behind [] ys h = h
rises_behind (x ∷ xs) ys h = rises_behind xs ys h.1

above_head : (n x : ℕ) (xs ys : List ℕ) → Above n (xs ++ x ∷ ys) → n < x
above_head n x [] ys h = h.0
above_head n x (m ∷ ms) ys h = above_head n x ms ys h.1

-- those in front of a number are below it
pub below_next : (xs ys : List ℕ) (n : ℕ) → Rises (xs ++ n ∷ ys) → Below n xs
below_next [] ys n h = tt
below_next (x ∷ xs) ys n h = (above_head x n xs ys h.0, below_next xs ys n h.1)

pub rising_same : RisingSame
rising_same ms ns rising other same = same_lists ms ns (rises_from ms rising) (rises_from ns other) same
