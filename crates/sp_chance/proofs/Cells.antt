-- Rows and columns of a matrix, and the diagonal.
use Rattle.std.proofs.Common.{◌≡◌, ℕ, zero, suc, ◌+◌, ◌-◌, ◌*◌, ◌/◌, ◌%◌, ◌<◌, ◌≤◌, ◌≢◌, ⊎_elim, Bool, true, false, cond, ◌==◌, List, length, get_or, slice_set, refl, sym, ap, ◌∙◌, subst, arith}
use Rattle.std.proofs.Math.Nat.{eq-or-lt_of_le}
use Rattle.std.proofs.lemmas.List.{get_or-set_other, get_or-set_same, length-set}
use Rattle.std.proofs.lemmas.List.FromFn.{length-map-range_with_len, get_or-map-range_with_len}
use Rattle.std.proofs.lemmas.Bool.Decides.{eqb_tells}
use Rattle.std.proofs.lemmas.Bool.{eq-eqb}
use Rattle.sp_base.specs.Limits.{whole_share}
use Rattle.sp_chance.specs.Matrices.{total, matrix, at, others, settled_at, settled}
use Rattle.sp_chance.proofs.Totals.{total-suc, total-same, total-le, total-first}

pub cell_row : (i j : ℕ) → j < 33 → (i * 33 + j) / 33 ≡ i
cell_row i j below = omega arith

pub cell_column : (i j : ℕ) → j < 33 → (i * 33 + j) % 33 ≡ j
cell_column i j below = omega arith

pub cell_within : (i j : ℕ) → i < 33 → j < 33 → i * 33 + j < 1089
cell_within i j row column = omega arith

pub length-matrix : (f : ℕ → ℕ → ℕ) → length (matrix f) ≡ 1089
unfolding matrix
length-matrix f = length-map-range_with_len (λ n. f (n / 33) (n % 33)) 0 1089

pub at-matrix : (f : ℕ → ℕ → ℕ) (i j : ℕ) → i < 33 → j < 33 → at (matrix f) i j ≡ f i j
unfolding matrix
at-matrix f i j row column =
    get_or-map-range_with_len (λ n. f (n / 33) (n % 33)) 0 1089 (i * 33 + j) (i * 33 + j) 0 (cell_within i j row column) (omega arith)
    ∙ ap (λ x. f x ((i * 33 + j) % 33)) (cell_row i j column)
    ∙ ap (λ x. f i x) (cell_column i j column)

choice_same : (b : Bool) (x y : ℕ) → (b ≡ false → x ≡ y) → cond b 0 x ≡ cond b 0 y
choice_same true x y same = refl
choice_same false x y same = same refl

settled_choice_same : (b : Bool) (r s x y : ℕ) → r ≡ s → (b ≡ false → x ≡ y) → cond b r x ≡ cond b s y
settled_choice_same true r s x y rest same = rest
settled_choice_same false r s x y rest same = same refl

-- a row's sum without the diagonal goes by the row's numbers alone
pub others-same : (f g : ℕ → ℕ → ℕ) (i : ℕ) → ((j : ℕ) → j < 33 → (j == i) ≡ false → f i j ≡ g i j) → total 33 (others f i) ≡ total 33 (others g i)
others-same f g i same =
    total-same 33 (others f i) (others g i) (λ j below. choice_same (j == i) (f i j) (g i j) (same j below))

pub choice_at : (b : Bool) (r x : ℕ) → b ≡ true → (cond b r x ≡ r) × (cond b 0 x ≡ 0)
choice_at true r x is = (refl, refl)
choice_at false r x is = absurd (cc)

pub choice_off : (b : Bool) (r x : ℕ) → b ≡ false → cond b r x ≡ cond b 0 x
choice_off true r x is = absurd (cc)
choice_off false r x is = refl

choice_le : (b : Bool) (x : ℕ) → cond b 0 x ≤ x
choice_le true x = omega arith
choice_le false x = omega arith

pub eqb_not : (j i : ℕ) → j ≢ i → (j == i) ≡ false
eqb_not j i other = ⊎_elim (λ (h : ((j == i) ≡ true) × (j ≡ i)). absurd (other h.1)) (λ (h : ((j == i) ≡ false) × (j ≢ i)). h.0) (eqb_tells j i)

-- a sum with a number at one place: as with nothing there, and once that number where the sum reaches it
before_it : (f : ℕ → ℕ) (i r n : ℕ) → n ≤ i → total n (λ j. cond (j == i) r (f j)) ≡ total n (λ j. cond (j == i) 0 (f j))
before_it f i r n less = total-same n _ _ (λ k below. choice_off (k == i) r (f k) (eqb_not k i (omega arith)))

pub with-it : (f : ℕ → ℕ) (i r n : ℕ) → i < n → total n (λ j. cond (j == i) r (f j)) ≡ total n (λ j. cond (j == i) 0 (f j)) + r
with-it f i r zero reached = absurd (omega arith)
with-it f i r (suc n) reached =
    ⊎_elim
    (λ (here : i ≡ n).
    let it = choice_at (n == i) r (f n) (eq-eqb n i (sym here)) in
    omega (arith, total-suc n (λ j. cond (j == i) r (f j)), total-suc n (λ j. cond (j == i) 0 (f j)), before_it f i r n (omega arith), it.0, it.1))
    (λ (behind : i < n).
    omega (arith, total-suc n (λ j. cond (j == i) r (f j)), total-suc n (λ j. cond (j == i) 0 (f j)), with-it f i r n behind, choice_off (n == i) r (f n) (eqb_not n i (omega arith))))
    (let less : i ≤ n = omega arith in eq-or-lt_of_le less)

-- each row of a settled matrix is whole, where the others leave something
pub settled-whole : (f : ℕ → ℕ → ℕ) (i : ℕ) → i < 33 → total 33 (others f i) ≤ whole_share → total 33 (at (settled f) i) ≡ whole_share
unfolding settled
settled-whole f i row most =
    let r : ℕ = whole_share - total 33 (others f i) in
    let numbers : total 33 (at (matrix (settled_at f)) i) ≡ total 33 (settled_at f i)
    = total-same 33 _ _ (λ j column. at-matrix (settled_at f) i j row column) in
    omega (arith, numbers, with-it (f i) i r 33 row)

pub length-settled : (f : ℕ → ℕ → ℕ) → length (settled f) ≡ 1089
unfolding settled
length-settled f = length-matrix (settled_at f)

pub at-settled : (f : ℕ → ℕ → ℕ) (i j : ℕ) → i < 33 → j < 33 → at (settled f) i j ≡ settled_at f i j
unfolding settled
at-settled f i j row column = at-matrix (settled_at f) i j row column

pub settled-off : (f : ℕ → ℕ → ℕ) (i j : ℕ) → i < j → j < 33 → at (settled f) i j ≡ f i j
settled-off f i j up column =
    at-settled f i j (omega arith) column
    ∙ ap (λ b. cond b (whole_share - total 33 (others f i)) (f i j)) (eqb_not j i (omega arith))

-- nothing on the diagonal, and the number there, are the whole row
pub others-and-it : (f : ℕ → ℕ → ℕ) (i : ℕ) → i < 33 → total 33 (others f i) ≤ total 33 (f i)
others-and-it f i row = total-le 33 (others f i) (f i) (λ j below. choice_le (j == i) (f i j))

-- numbers written one cell after the other, as far as the first rows
pub at-written : (rows : ℕ) (f : ℕ → ℕ → ℕ) (m : List ℕ) → ((n : ℕ) → n < rows * 33 → get_or m n 0 ≡ f (n / 33) (n % 33))
    → (i j : ℕ) → i < rows → j < 33 → at m i j ≡ f i j
at-written rows f m written i j row column =
    written (i * 33 + j) (omega arith)
    ∙ ap (λ x. f x ((i * 33 + j) % 33)) (cell_row i j column)
    ∙ ap (λ x. f i x) (cell_column i j column)

-- a row of a settled matrix goes by the row's numbers off the diagonal alone
pub settled-row : (f g : ℕ → ℕ → ℕ) (i : ℕ) → i < 33 → ((j : ℕ) → j < 33 → (j == i) ≡ false → f i j ≡ g i j)
    → (j : ℕ) → j < 33 → at (settled f) i j ≡ at (settled g) i j
settled-row f g i row same j column =
    at-settled f i j row column
    ∙ settled_choice_same (j == i) _ _ (f i j) (g i j) (ap (λ x. whole_share - x) (others-same f g i same)) (same j column)
    ∙ sym (at-settled g i j row column)

nothing_else : (f : ℕ → ℕ → ℕ) (i k : ℕ) → (i < k → k < 33 → f i k ≡ 0) → i ≤ k → k < 33 → others f i k ≡ 0
nothing_else f i k falls from below =
    ⊎_elim
    (λ (on : ((k == i) ≡ true) × (k ≡ i)). ap (λ b. cond b 0 (f i k)) on.0)
    (λ (off : ((k == i) ≡ false) × (k ≢ i)). let apart : k ≢ i = off.1 in ap (λ b. cond b 0 (f i k)) off.0 ∙ falls (omega arith) below)
    (eqb_tells k i)

-- where nothing stands behind the diagonal, the others are those before it
pub others-before : (f : ℕ → ℕ → ℕ) (i : ℕ) → i < 33 → ((j : ℕ) → i < j → j < 33 → f i j ≡ 0) → total 33 (others f i) ≡ total i (f i)
others-before f i row falls =
    total-first i 33 (others f i) (omega arith) (λ k from below. nothing_else f i k (falls k) from below)
    ∙ total-same i (others f i) (f i) (λ k below. ap (λ b. cond b 0 (f i k)) (eqb_not k i (omega arith)))

-- a matrix whose first rows are settled, and no other
pub record AreSettled (old m : List ℕ) (rows : ℕ) : Type 0 where
  pub size : length m ≡ 1089
  pub done : (i j : ℕ) → i < rows → j < 33 → at m i j ≡ settled_at (at old) i j
  pub left : (i j : ℕ) → rows ≤ i → i < 33 → j < 33 → at m i j ≡ at old i j

pub none-settled : (old : List ℕ) → length old ≡ 1089 → AreSettled old old 0
none-settled old size = record {
  size = size;
  done = λ i j below _. absurd (omega arith);
  left = λ i j _ _ _. refl;
}

pub at-set_other : (m : List ℕ) (c r i j : ℕ) → i * 33 + j ≢ c → at (slice_set m c r) i j ≡ at m i j
at-set_other m c r i j apart = get_or-set_other m c (i * 33 + j) r 0 apart

pub at-set_same : (m : List ℕ) (r i j : ℕ) → i * 33 + j < length m → at (slice_set m (i * 33 + j) r) i j ≡ r
at-set_same m r i j within = get_or-set_same m (i * 33 + j) r 0 within

-- the row that is settled now
settled_row : (old m : List ℕ) (s r : ℕ) → AreSettled old m s → s < 33 → r ≡ whole_share - total 33 (others (at m) s)
    → (j : ℕ) → j < 33 → at (slice_set m (s * 33 + s) r) s j ≡ settled_at (at old) s j
settled_row old m s r so row is j column =
    let kept : (k : ℕ) → k < 33 → at m s k ≡ at old s k = λ k below. so.left s k (omega arith) row below in
    let rest : r ≡ whole_share - total 33 (others (at old) s) = is ∙ ap (λ x. whole_share - x) (others-same (at m) (at old) s (λ k below _. kept k below)) in
    ⊎_elim
    (λ (on : ((j == s) ≡ true) × (j ≡ s)).
    ap (λ k. at (slice_set m (s * 33 + s) r) s k) on.1
    ∙ at-set_same m r s s (rw so.size (cell_within s s row row))
    ∙ rest
    ∙ sym (ap (λ b. cond b (whole_share - total 33 (others (at old) s)) (at old s j)) on.0))
    (λ (off : ((j == s) ≡ false) × (j ≢ s)).
    let apart : j ≢ s = off.1 in
    at-set_other m (s * 33 + s) r s j (omega arith)
    ∙ kept j column
    ∙ sym (ap (λ b. cond b (whole_share - total 33 (others (at old) s)) (at old s j)) off.0))
    (eqb_tells j s)

pub one-more-settled : (old m : List ℕ) (s r : ℕ) → AreSettled old m s → s < 33 → r ≡ whole_share - total 33 (others (at m) s)
    → AreSettled old (slice_set m (s * 33 + s) r) (s + 1)
one-more-settled old m s r so row is = record {
  size = length-set m (s * 33 + s) r ∙ so.size;
  done = λ i j below column.
      ⊎_elim
      (λ (here : i ≡ s). subst (λ (k : ℕ). at (slice_set m (s * 33 + s) r) k j ≡ settled_at (at old) k j) (sym here) (settled_row old m s r so row is j column))
      (λ (above : i < s). at-set_other m (s * 33 + s) r i j (omega arith) ∙ so.done i j above column)
      (let less : i ≤ s = omega arith in eq-or-lt_of_le less);
  left = λ i j behind within column. at-set_other m (s * 33 + s) r i j (omega arith) ∙ so.left i j (omega arith) within column;
}

pub rows-settled : (old m : List ℕ) (rows : ℕ) → rows ≤ 33 → AreSettled old m rows → (i j : ℕ) → i < rows → j < 33 → at m i j ≡ at (settled (at old)) i j
rows-settled old m rows most so i j row column =
    so.done i j row column ∙ sym (at-settled (at old) i j (omega arith) column)
