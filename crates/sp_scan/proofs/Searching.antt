-- Searches through lists and through ranges of numbers.
use Rattle.std.proofs.Common.{◌≡◌, ℕ, suc, zero, ◌+◌, ◌-◌, ◌<◌, ◌≤◌, Bool, true, false, cond, not, ◌&&◌, ◌||◌, eqb, List, [], ◌∷◌, ◌++◌, take, drop, take-append-drop, get_or, length, Some, None, refl, sym, ap, ◌∙◌, arith}
use Rattle.std.specs.Prelude.{is_none}
use Rattle.std.specs.Option.{option_or}
use Rattle.std.specs.List.{find, filter, list_all, range_with_len}
use Rattle.std.proofs.lemmas.Bool.Decides.{nat_tests}
use Rattle.std.proofs.lemmas.List.{take_more, drop_more}
use Rattle.std.proofs.lemmas.List.Folds.{find-append, list_all-append}
use Rattle.sp_base.specs.Numbers.{is_among, is_within}

-- all pass where none is found that fails
pub all_or_found : {X : Type 0} (p : X → Bool) (xs : List X) → is_none (find (λ x. not (p x)) xs) ≡ list_all p xs
all_or_found p [] = refl
all_or_found {X} p (x ∷ xs) = one (p x) (all_or_found p xs)
  where
    one : (b : Bool) → is_none (find (λ x. not (p x)) xs) ≡ list_all p xs → is_none (cond (not b) (Some x) (find (λ x. not (p x)) xs)) ≡ (b && list_all p xs)
    one true ih = ih
    one false ih = refl

-- one more that fails, and the first that passes
pub found_more : {X : Type 0} (p : X → Bool) (xs : List X) (i : ℕ) (d : X) → i < length xs → find p (take i xs) ≡ None → p (get_or xs i d) ≡ false → find p (take (i + 1) xs) ≡ None
found_more p xs i d within none fails = ap (find p) (take_more xs i d within) ∙ find-append p (take i xs) (get_or xs i d ∷ []) ∙ λ k. option_or (none k) (cond (fails k) (Some (get_or xs i d)) None)

pub found_here : {X : Type 0} (p : X → Bool) (xs : List X) (i : ℕ) (d : X) → i < length xs → find p (take i xs) ≡ None → p (get_or xs i d) ≡ true → find p xs ≡ Some (get_or xs i d)
found_here p xs i d within none holds =
    ap (find p) (sym (take-append-drop i xs) ∙ ap (λ rest. take i xs ++ rest) (drop_more xs i d within))
    ∙ find-append p (take i xs) (get_or xs i d ∷ drop (i + 1) xs) ∙ λ k. option_or (none k) (cond (holds k) (Some (get_or xs i d)) (find p (drop (i + 1) xs)))

-- a range of numbers that is cut at one of them
range_split : (a i m : ℕ) → range_with_len a (i + suc m) ≡ range_with_len a i ++ (a + i) ∷ range_with_len (a + i + 1) m
range_split a zero m =
    let e : 0 + suc m ≡ suc m = omega arith in
    let f : a ≡ a + 0 = omega arith in
    ap (range_with_len a) e ∙ ap (λ b. b ∷ range_with_len (b + 1) m) f
range_split a (suc i) m =
    let e : suc i + suc m ≡ suc (i + suc m) = omega arith in
    let f : a + 1 + i ≡ a + suc i = omega arith in
    ap (range_with_len a) e ∙ ap (λ ms. a ∷ ms) (range_split (a + 1) i m ∙ ap (λ b. range_with_len (a + 1) i ++ b ∷ range_with_len (b + 1) m) f)

-- from one number up to another, with a number between them
pub range_at : (a n past : ℕ) → a ≤ n → n < past → range_with_len a (past - a) ≡ range_with_len a (n - a) ++ n ∷ range_with_len (n + 1) (past - n - 1)
range_at a n past low high =
    let e : past - a ≡ n - a + suc (past - n - 1) = omega arith in
    let f : a + (n - a) ≡ n = omega arith in
    ap (range_with_len a) e ∙ range_split a (n - a) (past - n - 1) ∙ λ i. range_with_len a (n - a) ++ f i ∷ range_with_len (f i + 1) (past - n - 1)

pub range_push : (a n : ℕ) → a ≤ n → range_with_len a (n + 1 - a) ≡ range_with_len a (n - a) ++ n ∷ []
range_push a n low =
    let e : n + 1 - (n + 1) ≡ 0 = omega arith in
    let f : n + 1 - n - 1 ≡ 0 = omega arith in
    range_at a n (n + 1) low (omega arith) ∙ ap (λ m. range_with_len a (n - a) ++ n ∷ range_with_len (n + 1) m) f

-- which numbers a range has
pub among_range : (first n name : ℕ) → is_among (range_with_len first n) name ≡ is_within first n name
among_range first zero name = grind (arith, nat_tests)
among_range first (suc n) name = ap (λ b. eqb first name || b) (among_range (first + 1) n name) ∙ grind (arith, nat_tests)

-- what is found among those that pass another test
pub find_filter : {X : Type 0} (p t : X → Bool) (xs : List X) → find p (filter t xs) ≡ find (λ x. t x && p x) xs
find_filter p t [] = refl
find_filter {X} p t (x ∷ xs) = one (t x) (find_filter p t xs)
  where
    one : (b : Bool) → find p (filter t xs) ≡ find (λ x. t x && p x) xs → find p (cond b (x ∷ filter t xs) (filter t xs)) ≡ cond (b && p x) (Some x) (find (λ x. t x && p x) xs)
    one true ih = ap (λ rest. cond (p x) (Some x) rest) ih
    one false ih = ih

pub found_next : {X : Type 0} (p : X → Bool) (xs ys : List X) (x : X) → find p xs ≡ None → p x ≡ true → find p (xs ++ x ∷ ys) ≡ Some x
found_next p xs ys x none holds = find-append p xs (x ∷ ys) ∙ λ k. option_or (none k) (cond (holds k) (Some x) (find p ys))

pub fails_next : {X : Type 0} (p : X → Bool) (xs : List X) (x : X) → find p xs ≡ None → p x ≡ false → find p (xs ++ x ∷ []) ≡ None
fails_next p xs x none fails = find-append p xs (x ∷ []) ∙ λ k. option_or (none k) (cond (fails k) (Some x) None)

pub all_next : {X : Type 0} (p : X → Bool) (xs : List X) (x : X) → list_all p xs ≡ true → p x ≡ true → list_all p (xs ++ x ∷ []) ≡ true
all_next p xs x all holds = list_all-append p xs (x ∷ []) ∙ λ k. all k && (holds k && true)

pub all_not : {X : Type 0} (p : X → Bool) (xs ys : List X) (x : X) → list_all p xs ≡ true → p x ≡ false → list_all p (xs ++ x ∷ ys) ≡ false
all_not p xs ys x all fails = list_all-append p xs (x ∷ ys) ∙ λ k. all k && (fails k && list_all p ys)
