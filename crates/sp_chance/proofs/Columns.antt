-- The numbers that are kept of each power.
use Rattle.std.proofs.Common.{◌≡◌, ℕ, suc, ◌+◌, ◌-◌, ◌*◌, ◌<◌, ◌≤◌, ⊎_elim, List, ◌++◌, take, drop, length, get_or, append-nil, take_all, refl, sym, ap, ◌∙◌, subst, arith}
use Rattle.std.proofs.Math.Nat.{eq-or-lt_of_le}
use Rattle.std.proofs.Math.Seq.{drop-length}
use Rattle.sp_chance.specs.Matrices.{at, product, power}
use Rattle.sp_chance.specs.Counted.{HasRows, SameRows, HasColumns}
use Rattle.sp_chance.proofs.Whole.{product-same, power-same}

pub power-zero : (one : List ℕ) → power one 0 ≡ one
unfolding power
power-zero one = refl

power-suc : (one : List ℕ) (n : ℕ) → power one (suc n) ≡ product (power one n) one
unfolding power
power-suc one n = refl

-- a power by the one below it
power-more : (one : List ℕ) (k : ℕ) → 1 ≤ k → product (power one (k - 1)) one ≡ power one k
power-more one k some =
    let n : ℕ = k - 1 in
    let e : k ≡ suc n = omega arith in
    sym (ap (power one) e ∙ power-suc one n)

-- the first powers are kept, and the last of these is at hand
pub record AreKept (rows : ℕ) (one current kept : List ℕ) (powers : ℕ) : Type 0 where
  pub has : HasRows rows current
  pub current_is : SameRows rows current (power one (powers - 1))
  pub kept_are : (n i : ℕ) → n < powers → i < rows → get_or kept (n * 33 + i) 0 ≡ at (power one n) i 0

pub first-kept : (rows : ℕ) (one current kept : List ℕ) → HasRows rows one → current ≡ one
    → ((i : ℕ) → i < rows → get_or kept (0 * 33 + i) 0 ≡ at one i 0) → AreKept rows one current kept 1
first-kept rows one current kept has is column = record {
  has = subst (HasRows rows) (sym is) has;
  current_is = λ i j row below. ap (λ m. at m i j) (is ∙ sym (power-zero one));
  kept_are = λ n i below row.
      let none : n ≡ 0 = omega arith in
      ap (λ k. get_or kept (k * 33 + i) 0) none
      ∙ column i row
      ∙ ap (λ m. at m i 0) (sym (power-zero one))
      ∙ ap (λ k. at (power one k) i 0) (sym none);
}

pub more-kept : (rows : ℕ) (one current kept next now : List ℕ) (k : ℕ) → rows ≤ 33 → 1 ≤ k → AreKept rows one current kept k
    → SameRows rows next (product current one) → HasRows rows next
    → ((i : ℕ) → i < rows → get_or now (k * 33 + i) 0 ≡ at next i 0)
    → ((n : ℕ) → n < k * 33 → get_or now n 0 ≡ get_or kept n 0)
    → AreKept rows one next now (k + 1)
more-kept rows one current kept next now k most some so is has column before =
    let it : SameRows rows next (power one k)
    = λ i j row below.
    is i j row below
    ∙ product-same rows current one (power one (k - 1)) one most so.has so.current_is (λ _ _ _ _. refl) i j row below
    ∙ ap (λ m. at m i j) (power-more one k some)
    in
    let less : k + 1 - 1 ≡ k = omega arith in
    record {
      has = has;
      current_is = λ i j row below. it i j row below ∙ ap (λ n. at (power one n) i j) (sym less);
      kept_are = λ n i below row.
          ⊎_elim
          (λ (same : n ≡ k).
          ap (λ x. get_or now (x * 33 + i) 0) same
          ∙ column i row
          ∙ it i 0 row (omega arith)
          ∙ ap (λ x. at (power one x) i 0) (sym same))
          (λ (old : n < k). before (n * 33 + i) (omega arith) ∙ so.kept_are n i old row)
          (let within : n ≤ k = omega arith in eq-or-lt_of_le within);
    }

-- they are also those of a matrix with the same rows
pub columns-same : (rows : ℕ) (a b columns : List ℕ) → rows ≤ 33 → HasRows rows a → SameRows rows a b → HasColumns rows a columns → HasColumns rows b columns
columns-same rows a b columns most has same kept n i below row =
    kept n i below row ∙ power-same rows a b most has same n i 0 row (omega arith)

-- a list of numbers that was written over from its front, whole
pub written-over : (len : ℕ) (new old : List ℕ) → length new ≡ length old → len ≡ length old → take len (new ++ drop (length new) old) ≡ new
written-over len new old size is =
    ap (λ n. take len (new ++ drop n old)) size
    ∙ ap (λ l. take len (new ++ l)) (drop-length old)
    ∙ ap (take len) (append-nil new)
    ∙ take_all len new (omega arith)
