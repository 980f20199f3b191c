-- Counting pairs in a matrix.
use Rattle.std.proofs.Common.{◌≡◌, ℕ, ◌+◌, ◌*◌, ◌/◌, ◌<◌, ◌≤◌, ◌≢◌, ⊎_elim, Bool, true, false, cond, ◌==◌, ◌&&◌, ◌||◌, List, [], ◌∷◌, ◌++◌, length, map, get_or, take, replicate, slice_set, refl, sym, ap, ◌∙◌, arith}
use Rattle.std.specs.List.{count_by}
use Rattle.std.proofs.Math.ListN.{get_or-map}
use Rattle.std.proofs.lemmas.Bool.{eq-eqb}
use Rattle.std.proofs.lemmas.Bool.Decides.{eqb_tells, nat_tests}
use Rattle.std.proofs.lemmas.List.{get_or-replicate, get_or-set_other, length-set, length-take, take_more}
use Rattle.std.proofs.lemmas.List.Sums.{count_by-le-length, sum_by-cons, sum_by_push, sum_by-append}
use Rattle.std.proofs.lemmas.Grind.{get_or-set_at}
use Rattle.sp_base.specs.Limits.{whole_share}
use Rattle.sp_chance.specs.Matrices.{at, count, leaving, moved}
use Rattle.sp_chance.specs.Counted.{decoded, is_counted, tally, AreCounted, moved_by}
use Rattle.sp_chance.proofs.Cells.{eqb_not, cell_within}

-- one more in a cell
abbrev pub with_one : List ℕ → ℕ → List ℕ
with_one m c = slice_set m c (get_or m c 0 + 1)

-- one where it is so
abbrev pub one_if : Bool → ℕ
one_if b = cond b 1 0

get-with_one : (m : List ℕ) (c n : ℕ) → c < length m → get_or (with_one m c) n 0 ≡ get_or m n 0 + one_if (n == c)
get-with_one m c n within =
    ⊎_elim
    (λ (here : ((n == c) ≡ true) × (n ≡ c)).
    get_or-set_at m c n (get_or m c 0 + 1) 0 here.1 within
    ∙ ap (λ k. get_or m k 0 + 1) (sym here.1)
    ∙ ap (λ b. get_or m n 0 + one_if b) (sym here.0))
    (λ (there : ((n == c) ≡ false) × (n ≢ c)).
    omega (arith, get_or-set_other m c n (get_or m c 0 + 1) 0 there.1, ap one_if there.0))
    (eqb_tells n c)

-- how the cells of a pair are hit
both_cells : (from to i j : ℕ) → from ≢ to → from < 33 → to < 33 → j < 33
    → one_if (i * 33 + j == from * 33 + from) + one_if (i * 33 + j == from * 33 + to) ≡ one_if (is_counted i j (from, to))
both_cells from to i j apart f t column = grind (arith, nat_tests)

one_cell : (from to i j : ℕ) → from ≡ to → from < 33 → to < 33 → j < 33
    → one_if (i * 33 + j == from * 33 + from) ≡ one_if (is_counted i j (from, to))
one_cell from to i j same f t column = grind (arith, nat_tests)

pub counted-apart : (m : List ℕ) (from to i j : ℕ) → length m ≡ 1089 → from ≢ to → from < 33 → to < 33 → i < 33 → j < 33
    → at (with_one (with_one m (from * 33 + from)) (from * 33 + to)) i j ≡ at m i j + one_if (is_counted i j (from, to))
counted-apart m from to i j size apart f t row column =
    let first : from * 33 + from < length m = omega (arith, cell_within from from f f) in
    let second : from * 33 + to < length (with_one m (from * 33 + from)) = omega (arith, cell_within from to f t, length-set m (from * 33 + from) (get_or m (from * 33 + from) 0 + 1)) in
    omega (arith, get-with_one m (from * 33 + from) (i * 33 + j) first, get-with_one (with_one m (from * 33 + from)) (from * 33 + to) (i * 33 + j) second, both_cells from to i j apart f t column)

pub counted-same : (m : List ℕ) (from to i j : ℕ) → length m ≡ 1089 → from ≡ to → from < 33 → to < 33 → i < 33 → j < 33
    → at (with_one m (from * 33 + from)) i j ≡ at m i j + one_if (is_counted i j (from, to))
counted-same m from to i j size same f t row column =
    let first : from * 33 + from < length m = omega (arith, cell_within from from f f) in
    omega (arith, get-with_one m (from * 33 + from) (i * 33 + j) first, one_cell from to i j same f t column)

pub tally-more : (pairs : List (ℕ × ℕ)) (k i j : ℕ) → k < length pairs
    → tally (take (k + 1) pairs) i j ≡ tally (take k pairs) i j + one_if (is_counted i j (get_or pairs k (0, 0)))
tally-more pairs k i j below =
    ap (λ ps. tally ps i j) (take_more pairs k (0, 0) below) ∙ sum_by_push (λ p. one_if (is_counted i j p)) (take k pairs) (get_or pairs k (0, 0))

pub tally-most : (pairs : List (ℕ × ℕ)) (k i j : ℕ) → k ≤ length pairs → tally (take k pairs) i j ≤ k
tally-most pairs k i j within = omega (arith, count_by-le-length (is_counted i j) (take k pairs), length-take k pairs)

pub tally-append : (xs ys : List (ℕ × ℕ)) (i j : ℕ) → tally (xs ++ ys) i j ≡ tally xs i j + tally ys i j
tally-append xs ys i j = sum_by-append (λ p. one_if (is_counted i j p)) xs ys

-- the pair of a number in a list
pub decoded-at : (codes : List ℕ) (k : ℕ) → get_or (map decoded codes) k (0, 0) ≡ decoded (get_or codes k 0)
decoded-at codes k = get_or-map decoded codes k 0

pub at-zeros : (i j : ℕ) → i < 33 → j < 33 → at (replicate 1089 0) i j ≡ 0
at-zeros i j row column = get_or-replicate 1089 (i * 33 + j) 0 0 (cell_within i j row column)

-- pairs that pass the same tests are as many
count-same : (p q : ℕ × ℕ → Bool) → ((x : ℕ × ℕ) → p x ≡ q x) → (xs : List (ℕ × ℕ)) → count_by p xs ≡ count_by q xs
count-same p q same [] = refl
count-same p q same (x ∷ xs) =
    omega (arith, sum_by-cons (λ y. one_if (p y)) x xs, sum_by-cons (λ y. one_if (q y)) x xs, ap one_if (same x), count-same p q same xs)

on_it : (b c d : Bool) → c ≡ true → (b && (c || d)) ≡ b
on_it true true d is = refl
on_it false true d is = refl
on_it b false d is = absurd (cc)

off_it : (b c d : Bool) → c ≡ false → (b && (c || d)) ≡ (b && d)
off_it b true d is = absurd (cc)
off_it true false d is = refl
off_it false false d is = refl

pub tally-on : (pairs : List (ℕ × ℕ)) (i : ℕ) → tally pairs i i ≡ leaving i pairs
tally-on pairs i = count-same (is_counted i i) (λ p. p.0 == i) (λ p. on_it (p.0 == i) (i == i) (p.1 == i) (eq-eqb i i refl)) pairs

pub tally-off : (pairs : List (ℕ × ℕ)) (i j : ℕ) → i ≢ j → tally pairs i j ≡ count i j pairs
tally-off pairs i j apart =
    count-same (is_counted i j) (λ p. (p.0 == i) && (p.1 == j)) (λ p. off_it (p.0 == i) (i == j) (p.1 == j) (eqb_not i j apart)) pairs

one_within : (b c d e : Bool) → c ≡ true → one_if (b && e) ≤ one_if (b && (c || d))
one_within true true d true is = omega arith
one_within true true d false is = omega arith
one_within false true d e is = omega arith
one_within b false d e is = absurd (cc)

pub tally-within : (pairs : List (ℕ × ℕ)) (i j : ℕ) → tally pairs i j ≤ tally pairs i i
tally-within [] i j = omega arith
tally-within (p ∷ ps) i j =
    omega (arith, sum_by-cons (λ q. one_if (is_counted i j q)) p ps, sum_by-cons (λ q. one_if (is_counted i i q)) p ps, one_within (p.0 == i) (i == i) (p.1 == i) (i == j || p.1 == j) (eq-eqb i i refl), tally-within ps i j)

not_same : (i j : ℕ) → (j == i) ≡ false → i ≢ j
not_same i j off same = let on : (j == i) ≡ true = eq-eqb j i (sym same) in cc

-- off the diagonal the counts give the part that the pairs give
pub moved-counted : (pairs : List (ℕ × ℕ)) (counts : List ℕ) → AreCounted pairs counts → (i j : ℕ) → i < 33 → j < 33 → (j == i) ≡ false
    → moved_by counts i j ≡ moved pairs i j
moved-counted pairs counts counted i j row column off =
    let leave : at counts i i ≡ leaving i pairs = counted i i row row ∙ tally-on pairs i in
    let lead : at counts i j ≡ count i j pairs = counted i j row column ∙ tally-off pairs i j (not_same i j off) in
    ap (λ t. cond (t == 0) (cond (j + 1 == i) 32768 0) (at counts i j * whole_share / t)) leave
    ∙ ap (λ n. cond (leaving i pairs == 0) (cond (j + 1 == i) 32768 0) (n * whole_share / leaving i pairs)) lead
