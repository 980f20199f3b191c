-- Every row of every matrix sums up to 65,536.
use Rattle.std.proofs.Common.{◌≡◌, ℕ, zero, suc, ◌+◌, ◌*◌, ◌/◌, ◌%◌, ◌<◌, ◌≤◌, ⊎_elim, Bool, true, false, cond, ◌&&◌, ◌==◌, List, [], ◌∷◌, All, length, get_or, refl, sym, ap, ◌∙◌, arith}
use Rattle.std.proofs.Math.Nat.{le_of_mul-le-mul_right, mul-le-mul_left, mul-zero, zero-mul, zero-div}
use Rattle.std.proofs.lemmas.Bool.{eqb-true, cases_lt}
use Rattle.std.proofs.lemmas.Bool.Decides.{nat_tests}
use Rattle.std.proofs.lemmas.List.Elements.{All-tail}
use Rattle.std.proofs.lemmas.List.Sums.{sum_by-cons}
use Rattle.sp_base.specs.Limits.{whole_share}
use Rattle.sp_chance.specs.Matrices.{total, at, AreWhole, others, settled, count, leaving, moved, transitions, joined, product, first, power, RowsAreWhole}
use Rattle.sp_chance.specs.Counted.{HasRows, SameRows, IsMove, AreCounted, moved_by}
use Rattle.sp_chance.proofs.Totals.{total-same, total-le, total-plus, total-times, total-zeros, total-turned, total-rounded, total-once, total-nothing, part-le-total}
use Rattle.sp_chance.proofs.Cells.{eqb_not, others-and-it, settled-off, settled-whole, length-settled, settled-row, others-same, at-written}
use Rattle.sp_chance.proofs.Counting.{moved-counted}

-- one row of a product, before it is rounded, where each row that it takes of is whole
row_of_products : (a b : List ℕ) (i : ℕ) → total 33 (at a i) ≡ whole_share
    → ((k : ℕ) → k < 33 → total 33 (at b k) * at a i k ≡ whole_share * at a i k)
    → total 33 (λ j. total 33 (λ k. at a i k * at b k j)) ≡ whole_share * whole_share
row_of_products a b i left right =
    let one : (k : ℕ) → k < 33 → total 33 (λ j. at a i k * at b k j) ≡ at a i k * whole_share
    = λ k below.
    let turned : total 33 (λ j. at a i k * at b k j) ≡ total 33 (λ j. at b k j * at a i k) = total-same 33 _ _ (λ j _. omega arith) in
    omega (arith, turned, total-times 33 (at b k) (at a i k), right k below)
    in
    let all : total 33 (λ k. total 33 (λ j. at a i k * at b k j)) ≡ total 33 (λ k. at a i k * whole_share) = total-same 33 _ _ one in
    omega (arith, total-turned 33 33 (λ j k. at a i k * at b k j), all, total-times 33 (at a i) whole_share, left)

-- no number is above the whole
cell_most : (m : List ℕ) (i j : ℕ) → total 33 (at m i) ≡ whole_share → j < 33 → at m i j ≤ whole_share
cell_most m i j whole column = omega (arith, part-le-total 33 (at m i) j column, whole)

-- of a row behind the first ones nothing is taken
none_taken : (rows : ℕ) (a : List ℕ) → HasRows rows a → (i k : ℕ) → i < rows → rows ≤ k → k < 33 → at a i k ≡ 0
none_taken rows a left i k row behind below = left.falls i k row (omega arith) below

-- nor is a sum of products above the square of the whole
pub products-most : (rows : ℕ) (a b : List ℕ) → HasRows rows a → HasRows rows b → (i j : ℕ) → i < rows → j < 33
    → total 33 (λ k. at a i k * at b k j) ≤ whole_share * whole_share
products-most rows a b left right i j row column =
    let each : total 33 (λ k. at a i k * at b k j) ≤ total 33 (λ k. at a i k * whole_share)
    = total-le 33 _ _ (λ k below.
    ⊎_elim
    (λ (first : k < rows). mul-le-mul_left (at a i k) (cell_most b k j (right.whole k first) column))
    (λ (behind : rows ≤ k). let none = none_taken rows a left i k row behind below in omega (arith, ap (λ x. x * at b k j) none))
    (cases_lt k rows)) in
    omega (arith, each, total-times 33 (at a i) whole_share, left.whole i row)

joined_most : (a b : List ℕ) (i : ℕ) → i < 33 → total 33 (at a i) ≡ whole_share
    → ((k : ℕ) → k < 33 → total 33 (at b k) * at a i k ≡ whole_share * at a i k) → total 33 (others (joined a b) i) ≤ whole_share
joined_most a b i row left right =
    omega (arith, others-and-it (joined a b) i row, total-rounded 33 (λ j. total 33 (λ k. at a i k * at b k j)) whole_share, row_of_products a b i left right)

takes : (rows : ℕ) (a b : List ℕ) → HasRows rows a → HasRows rows b → (i k : ℕ) → i < rows → k < 33
    → total 33 (at b k) * at a i k ≡ whole_share * at a i k
takes rows a b left right i k row below =
    ⊎_elim
    (λ (first : k < rows). ap (λ x. x * at a i k) (right.whole k first))
    (λ (behind : rows ≤ k). let none = none_taken rows a left i k row behind below in omega (arith, ap (λ x. total 33 (at b k) * x) none))
    (cases_lt k rows)

pub joined-most : (rows : ℕ) (a b : List ℕ) → HasRows rows a → HasRows rows b → rows ≤ 33 → (i : ℕ) → i < rows → total 33 (others (joined a b) i) ≤ whole_share
joined-most rows a b left right most i row =
    joined_most a b i (omega arith) (left.whole i row) (λ k below. takes rows a b left right i k row below)

pub product-whole : (a b : List ℕ) → AreWhole a → AreWhole b → AreWhole (product a b)
unfolding product
product-whole a b left right i row =
    settled-whole (joined a b) i row (joined_most a b i row (left i row) (λ k below. ap (λ x. x * at a i k) (right k below)))

-- the products of row i and column j are nothing where no move leads up
no_way_up : (rows : ℕ) (a b : List ℕ) → HasRows rows a → HasRows rows b → (i j : ℕ) → i < rows → i < j → j < 33 → (k : ℕ) → k < 33 → at a i k * at b k j ≡ 0
no_way_up rows a b left right i j row up column k below =
    ⊎_elim
    (λ (behind : i < k). ap (λ x. x * at b k j) (left.falls i k row behind below) ∙ zero-mul (at b k j))
    (λ (before : k ≤ i). ap (λ x. at a i k * x) (right.falls k j (omega arith) (omega arith) column) ∙ mul-zero (at a i k))
    (cases_lt i k)

pub joined-falls : (rows : ℕ) (a b : List ℕ) → HasRows rows a → HasRows rows b → (i j : ℕ) → i < rows → i < j → j < 33 → joined a b i j ≡ 0
joined-falls rows a b left right i j row up column =
    ap (λ x. x / whole_share) (total-nothing 33 (λ k. at a i k * at b k j) (no_way_up rows a b left right i j row up column))

pub product-rows : (rows : ℕ) (a b : List ℕ) → HasRows rows a → HasRows rows b → rows ≤ 33 → HasRows rows (product a b)
unfolding product
product-rows rows a b left right most = record {
  size = length-settled (joined a b);
  whole = λ i row. settled-whole (joined a b) i (omega arith) (joined-most rows a b left right most i row);
  falls = λ i j row up column. settled-off (joined a b) i j up column ∙ joined-falls rows a b left right i j row up column;
}

-- the first rows of a product go by those of the two
joined_same : (rows : ℕ) (a b c d : List ℕ) → HasRows rows a → SameRows rows a c → SameRows rows b d → (i j : ℕ) → i < rows → j < 33
    → joined a b i j ≡ joined c d i j
joined_same rows a b c d left same other i j row column =
    ap (λ x. x / whole_share) (total-same 33 (λ k. at a i k * at b k j) (λ k. at c i k * at d k j) (λ k below.
    ⊎_elim
    (λ (first : k < rows). ap (λ x. x * at b k j) (same i k row below) ∙ ap (λ x. at c i k * x) (other k j first column))
    (λ (behind : rows ≤ k).
    let none : at a i k ≡ 0 = none_taken rows a left i k row behind below in
    let too : at c i k ≡ 0 = sym (same i k row below) ∙ none in
    ap (λ x. x * at b k j) none ∙ zero-mul (at b k j) ∙ sym (ap (λ x. x * at d k j) too ∙ zero-mul (at d k j)))
    (cases_lt k rows)))

pub product-same : (rows : ℕ) (a b c d : List ℕ) → rows ≤ 33 → HasRows rows a → SameRows rows a c → SameRows rows b d → SameRows rows (product a b) (product c d)
unfolding product
product-same rows a b c d most left same other i j row column =
    settled-row (joined a b) (joined c d) i (omega arith) (λ k below _. joined_same rows a b c d left same other i k row below) j column

pub squared-same : (rows : ℕ) (a b m : List ℕ) → rows ≤ 33 → HasRows rows a → SameRows rows a b → SameRows rows m (product a a) → SameRows rows m (product b b)
squared-same rows a b m most left same is i j row column =
    is i j row column ∙ product-same rows a a b b most left same same i j row column

-- what has the rows of a matrix has rows
pub has-rows : (rows : ℕ) (m a : List ℕ) → length m ≡ 1089 → SameRows rows m a → HasRows rows a → HasRows rows m
has-rows rows m a size same has = record {
  size = size;
  whole = λ i row. total-same 33 (at m i) (at a i) (λ j column. same i j row column) ∙ has.whole i row;
  falls = λ i j row up column. same i j row column ∙ has.falls i j row up column;
}

pub fewer-rows : (rows more : ℕ) (m : List ℕ) → rows ≤ more → HasRows more m → HasRows rows m
fewer-rows rows more m less has = record {
  size = has.size;
  whole = λ i row. has.whole i (omega arith);
  falls = λ i j row up column. has.falls i j (omega arith) up column;
}

pub product-written : (rows : ℕ) (a b m : List ℕ) → rows ≤ 33 → ((i j : ℕ) → i < rows → j < 33 → at m i j ≡ joined a b i j)
    → SameRows rows (settled (at m)) (product a b)
unfolding product
product-written rows a b m most written i j row column =
    settled-row (at m) (joined a b) i (omega arith) (λ k below _. written i k row below) j column

one_pair : (b : Bool) (n x : ℕ) → total n (λ j. cond (b && (x == j)) 1 0) ≤ cond b 1 0
one_pair true n x = total-once n (λ j. x == j) 1 (λ j k here there. sym (eqb-true x j here) ∙ eqb-true x k there)
one_pair false n x = omega (arith, total-zeros n)

-- the pairs from a state to any are pairs from that state
pub counts-within : (n i : ℕ) (pairs : List (ℕ × ℕ)) → total n (λ j. count i j pairs) ≤ leaving i pairs
counts-within n i [] = omega (arith, total-zeros n)
counts-within n i (p ∷ ps) =
    let each : total n (λ j. count i j (p ∷ ps)) ≡ total n (λ j. cond ((p.0 == i) && (p.1 == j)) 1 0 + count i j ps)
    = total-same n _ _ (λ j _. sum_by-cons (λ q. cond ((q.0 == i) && (q.1 == j)) 1 0) p ps) in
    let both : total n (λ j. cond ((p.0 == i) && (p.1 == j)) 1 0 + count i j ps) ≡ total n (λ j. cond ((p.0 == i) && (p.1 == j)) 1 0) + total n (λ j. count i j ps)
    = total-plus n (λ j. cond ((p.0 == i) && (p.1 == j)) 1 0) (λ j. count i j ps) in
    let here : leaving i (p ∷ ps) ≡ cond (p.0 == i) 1 0 + leaving i ps = sum_by-cons (λ q. cond (q.0 == i) 1 0) p ps in
    omega (arith, each, both, here, one_pair (p.0 == i) n p.1, counts-within n i ps)

step_down : ℕ → ℕ → ℕ
step_down i j = cond (j + 1 == i) 32768 0

parts : (b : Bool) (t n : ℕ) (f : ℕ → ℕ) (i : ℕ) → (b ≡ false → 0 < t) → total n f ≤ t → total n (λ j. cond b (cond (j + 1 == i) 32768 0) (f j * whole_share / t)) ≤ whole_share
parts true t n f i some within =
    omega (
      arith,
      total-once n (λ j. j + 1 == i) 32768 (λ j k here there.
          let one : j + 1 ≡ i = eqb-true (j + 1) i here in let other : k + 1 ≡ i = eqb-true (k + 1) i there in omega arith),
    )
parts false t n f i some within =
    let above : 0 < t = some refl in
    let rounded : total n (λ j. f j * whole_share / t) * t ≤ total n (λ j. f j * whole_share) = total-rounded n (λ j. f j * whole_share) t in
    let all : total n (λ j. f j * whole_share) ≡ total n f * whole_share = total-times n f whole_share in
    let enough : total n (λ j. f j * whole_share / t) * t ≤ whole_share * t = omega arith in
    le_of_mul-le-mul_right enough above

zero_not : (t : ℕ) → (t == 0) ≡ false → 0 < t
zero_not zero is = absurd (cc)
zero_not (suc t) is = omega arith

pub moved-most : (pairs : List (ℕ × ℕ)) (i : ℕ) → i < 33 → total 33 (others (moved pairs) i) ≤ whole_share
moved-most pairs i row =
    let t : ℕ = leaving i pairs in
    omega (arith, others-and-it (moved pairs) i row, parts (t == 0) t 33 (λ j. count i j pairs) i (zero_not t) (counts-within 33 i pairs))

pub transitions-whole : (pairs : List (ℕ × ℕ)) → AreWhole (transitions pairs)
unfolding transitions
transitions-whole pairs i row = settled-whole (moved pairs) i row (moved-most pairs i row)

none_up : (i j : ℕ) (p : ℕ × ℕ) → IsMove p → i < j → ((p.0 == i) && (p.1 == j)) ≡ false
none_up i j p move up = let falls : p.1 ≤ p.0 = move.falls in grind (arith, nat_tests)

count-up : (pairs : List (ℕ × ℕ)) → All IsMove pairs → (i j : ℕ) → i < j → count i j pairs ≡ 0
count-up [] moves i j up = refl
count-up (p ∷ ps) moves i j up =
    let one : Bool → ℕ = λ b. cond b 1 0 in
    omega (arith, sum_by-cons (λ q. cond ((q.0 == i) && (q.1 == j)) 1 0) p ps, ap one (none_up i j p (moves 0 p (omega arith)) up), count-up ps (All-tail IsMove p ps moves) i j up)

not_down : (b c : Bool) (x : ℕ) → c ≡ false → x ≡ 0 → cond b (cond c 32768 0) x ≡ 0
not_down true true x no_step none = absurd (cc)
not_down true false x no_step none = refl
not_down false c x no_step none = none

moved-falls : (pairs : List (ℕ × ℕ)) → All IsMove pairs → (i j : ℕ) → i < j → moved pairs i j ≡ 0
moved-falls pairs moves i j up =
    not_down (leaving i pairs == 0) (j + 1 == i) (count i j pairs * whole_share / leaving i pairs) (eqb_not (j + 1) i (omega arith))
    (ap (λ n. n * whole_share / leaving i pairs) (count-up pairs moves i j up) ∙ zero-div (leaving i pairs))

pub transitions-rows : (pairs : List (ℕ × ℕ)) → All IsMove pairs → HasRows 33 (transitions pairs)
unfolding transitions
transitions-rows pairs moves = record {
  size = length-settled (moved pairs);
  whole = transitions-whole pairs;
  falls = λ i j _ up column. settled-off (moved pairs) i j up column ∙ moved-falls pairs moves i j up;
}

-- the parts of the pairs, written by what was counted
parts_written : (rows : ℕ) (pairs : List (ℕ × ℕ)) (counts m : List ℕ) → rows ≤ 33 → AreCounted pairs counts
    → ((n : ℕ) → n < rows * 33 → get_or m n 0 ≡ moved_by counts (n / 33) (n % 33))
    → (i j : ℕ) → i < rows → j < 33 → (j == i) ≡ false → at m i j ≡ moved pairs i j
parts_written rows pairs counts m most counted written i j row column off =
    at-written rows (moved_by counts) m written i j row column ∙ moved-counted pairs counts counted i j (omega arith) column off

pub transitions-written : (rows : ℕ) (pairs : List (ℕ × ℕ)) (counts m : List ℕ) → rows ≤ 33 → AreCounted pairs counts
    → ((n : ℕ) → n < rows * 33 → get_or m n 0 ≡ moved_by counts (n / 33) (n % 33)) → SameRows rows (settled (at m)) (transitions pairs)
unfolding transitions
transitions-written rows pairs counts m most counted written i j row column =
    settled-row (at m) (moved pairs) i (omega arith) (λ k below off. parts_written rows pairs counts m most counted written i k row below off) j column

pub written-most : (rows : ℕ) (pairs : List (ℕ × ℕ)) (counts m : List ℕ) → rows ≤ 33 → AreCounted pairs counts
    → ((n : ℕ) → n < rows * 33 → get_or m n 0 ≡ moved_by counts (n / 33) (n % 33)) → (i : ℕ) → i < rows → total 33 (others (at m) i) ≤ whole_share
written-most rows pairs counts m most counted written i row =
    omega (
      arith,
      moved-most pairs i (omega arith),
      others-same (at m) (moved pairs) i (λ j column off. parts_written rows pairs counts m most counted written i j row column off),
    )

pub written-falls : (rows : ℕ) (pairs : List (ℕ × ℕ)) (counts m : List ℕ) → All IsMove pairs → rows ≤ 33 → AreCounted pairs counts
    → ((n : ℕ) → n < rows * 33 → get_or m n 0 ≡ moved_by counts (n / 33) (n % 33)) → (i j : ℕ) → i < rows → i < j → j < 33 → at m i j ≡ 0
written-falls rows pairs counts m moves most counted written i j row up column =
    parts_written rows pairs counts m most counted written i j row column (eqb_not j i (omega arith)) ∙ moved-falls pairs moves i j up

first-whole : (pairs : List (ℕ × ℕ)) → AreWhole (first pairs)
unfolding first
first-whole pairs =
    let one = product-whole (transitions pairs) (transitions pairs) (transitions-whole pairs) (transitions-whole pairs) in
    let two = product-whole _ _ one one in
    let four = product-whole _ _ two two in
    product-whole _ _ four four

power-whole : (one : List ℕ) → AreWhole one → (n : ℕ) → AreWhole (power one n)
unfolding power
power-whole one is zero = is
power-whole one is (suc n) = product-whole (power one n) one (power-whole one is n) is

power-rows : (rows : ℕ) (one : List ℕ) → rows ≤ 33 → HasRows rows one → (n : ℕ) → HasRows rows (power one n)
unfolding power
power-rows rows one most is zero = is
power-rows rows one most is (suc n) = product-rows rows (power one n) one (power-rows rows one most is n) is most

-- the first rows of a power go by those of the matrix
pub power-same : (rows : ℕ) (a b : List ℕ) → rows ≤ 33 → HasRows rows a → SameRows rows a b → (n : ℕ) → SameRows rows (power a n) (power b n)
unfolding power
power-same rows a b most has same zero = same
power-same rows a b most has same (suc n) =
    product-same rows (power a n) a (power b n) b most (power-rows rows a most has n) (power-same rows a b most has same n) same

pub rows-are-whole : RowsAreWhole
rows-are-whole = record {
  steps = transitions-whole;
  products = product-whole;
  sixteen = first-whole;
  powers = λ pairs n. power-whole (first pairs) (first-whole pairs) n;
}
