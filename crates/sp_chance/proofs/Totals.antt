-- Sums over states.
use Rattle.std.proofs.Common.{◌≡◌, ℕ, zero, suc, ◌+◌, ◌*◌, ◌/◌, ◌<◌, ◌≤◌, ◌⊎◌, inl, inr, ⊎_elim, Bool, true, false, cond, refl, sym, subst, ap, ◌∙◌, arith, add-one}
use Rattle.std.proofs.Math.Nat.{div-mul-le_self, eq-or-lt_of_le}
use Rattle.std.proofs.lemmas.List.FromFn.{sum_by-map-range_with_len_more}
use Rattle.sp_chance.specs.Matrices.{total}

pub total-none : (f : ℕ → ℕ) → total 0 f ≡ 0
unfolding total
total-none f = refl

pub total-more : (n : ℕ) (f : ℕ → ℕ) → total (n + 1) f ≡ total n f + f n
unfolding total
total-more n f = sum_by-map-range_with_len_more (λ x. x) f 0 n n (omega arith)

pub total-suc : (n : ℕ) (f : ℕ → ℕ) → total (suc n) f ≡ total n f + f n
total-suc n f = subst (λ (m : ℕ). total m f ≡ total n f + f n) (add-one n) (total-more n f)

pub total-same : (n : ℕ) (f g : ℕ → ℕ) → ((k : ℕ) → k < n → f k ≡ g k) → total n f ≡ total n g
total-same zero f g same = total-none f ∙ sym (total-none g)
total-same (suc n) f g same =
    omega (arith, total-suc n f, total-suc n g, total-same n f g (λ k below. same k (omega arith)), same n (omega arith))

pub total-le : (n : ℕ) (f g : ℕ → ℕ) → ((k : ℕ) → k < n → f k ≤ g k) → total n f ≤ total n g
total-le zero f g less = omega (arith, total-none f, total-none g)
total-le (suc n) f g less =
    omega (arith, total-suc n f, total-suc n g, total-le n f g (λ k below. less k (omega arith)), less n (omega arith))

pub total-plus : (n : ℕ) (f g : ℕ → ℕ) → total n (λ k. f k + g k) ≡ total n f + total n g
total-plus zero f g = omega (arith, total-none f, total-none g, total-none (λ k. f k + g k))
total-plus (suc n) f g =
    omega (arith, total-suc n f, total-suc n g, total-suc n (λ k. f k + g k), total-plus n f g)

pub total-times : (n : ℕ) (f : ℕ → ℕ) (c : ℕ) → total n (λ k. f k * c) ≡ total n f * c
total-times zero f c = omega (arith, total-none (λ k. f k * c), ap (λ x. x * c) (total-none f))
total-times (suc n) f c =
    omega (arith, total-suc n (λ k. f k * c), ap (λ x. x * c) (total-suc n f), total-times n f c)

pub total-zeros : (n : ℕ) → total n (λ _. 0) ≡ 0
total-zeros zero = total-none (λ _. 0)
total-zeros (suc n) = omega (arith, total-suc n (λ _. 0), total-zeros n)

pub total-turned : (n m : ℕ) (f : ℕ → ℕ → ℕ) → total n (λ j. total m (λ k. f j k)) ≡ total m (λ k. total n (λ j. f j k))
total-turned zero m f =
    total-none (λ j. total m (λ k. f j k))
    ∙ sym (total-same m (λ k. total 0 (λ j. f j k)) (λ _. 0) (λ k _. total-none (λ j. f j k)) ∙ total-zeros m)
total-turned (suc n) m f =
    let step : total m (λ k. total (suc n) (λ j. f j k)) ≡ total m (λ k. total n (λ j. f j k) + f n k)
    = total-same m _ _ (λ k _. total-suc n (λ j. f j k)) in
    let parts : total m (λ k. total n (λ j. f j k) + f n k) ≡ total m (λ k. total n (λ j. f j k)) + total m (λ k. f n k)
    = total-plus m (λ k. total n (λ j. f j k)) (λ k. f n k) in
    omega (arith, total-suc n (λ j. total m (λ k. f j k)), total-turned n m f, step, parts)

-- one number is at most the sum of all
pub part-le-total : (n : ℕ) (f : ℕ → ℕ) (i : ℕ) → i < n → f i ≤ total n f
part-le-total zero f i below = omega arith
part-le-total (suc n) f i below =
    ⊎_elim
    (λ (same : i ≡ n). omega (arith, total-suc n f, ap f same))
    (λ (less : i < n). omega (arith, total-suc n f, part-le-total n f i less))
    (let less : i ≤ n = omega arith in eq-or-lt_of_le less)

-- a sum of fewer states is at most that of more
pub total-fewer : (m n : ℕ) (f : ℕ → ℕ) → m ≤ n → total m f ≤ total n f
total-fewer m zero f less = let e : m ≡ 0 = omega arith in rw e (omega arith)
total-fewer m (suc n) f less =
    ⊎_elim
    (λ (same : m ≡ suc n). rw same (omega arith))
    (λ (below : m < suc n). omega (arith, total-suc n f, total-fewer m n f (omega arith)))
    (eq-or-lt_of_le less)

-- what is rounded down adds up to no more
pub total-rounded : (n : ℕ) (f : ℕ → ℕ) (d : ℕ) → total n (λ k. f k / d) * d ≤ total n f
total-rounded zero f d = omega (arith, ap (λ x. x * d) (total-none (λ k. f k / d)))
total-rounded (suc n) f d =
    omega (arith, total-suc n f, ap (λ x. x * d) (total-suc n (λ k. f k / d)), total-rounded n f d, div-mul-le_self (f n) d)

true_or_false : (b : Bool) → (b ≡ true) ⊎ (b ≡ false)
true_or_false true = inl refl
true_or_false false = inr refl

none_of : (n : ℕ) (p : ℕ → Bool) (r : ℕ) → ((k : ℕ) → k < n → p k ≡ false) → total n (λ j. cond (p j) r 0) ≡ 0
none_of n p r none = total-same n (λ j. cond (p j) r 0) (λ _. 0) (λ k below. ap (λ b. cond b r 0) (none k below)) ∙ total-zeros n

other_false : (b : Bool) → (b ≡ true → ⊥) → b ≡ false
other_false true never = absurd (never refl)
other_false false never = refl

-- what stands at one place at most adds up to no more than that
pub total-once : (n : ℕ) (p : ℕ → Bool) (r : ℕ) → ((j k : ℕ) → p j ≡ true → p k ≡ true → j ≡ k) → total n (λ j. cond (p j) r 0) ≤ r
total-once zero p r once = omega (arith, total-none (λ j. cond (p j) r 0))
total-once (suc n) p r once =
    ⊎_elim
    (λ (here : p n ≡ true).
    omega (
      arith,
      total-suc n (λ j. cond (p j) r 0),
      ap (λ b. cond b r 0) here,
      none_of n p r (λ k below.
          other_false (p k) (λ too. let same : k ≡ n = once k n too here in omega arith)),
    ))
    (λ (not_here : p n ≡ false).
    omega (arith, total-suc n (λ j. cond (p j) r 0), ap (λ b. cond b r 0) not_here, total-once n p r once))
    (true_or_false (p n))

-- what is nothing adds nothing
pub total-nothing : (n : ℕ) (f : ℕ → ℕ) → ((k : ℕ) → k < n → f k ≡ 0) → total n f ≡ 0
total-nothing n f nothing = total-same n f (λ _. 0) nothing ∙ total-zeros n

-- nor does what is nothing behind the first states
pub total-first : (m n : ℕ) (f : ℕ → ℕ) → m ≤ n → ((k : ℕ) → m ≤ k → k < n → f k ≡ 0) → total n f ≡ total m f
total-first m zero f less nothing = let none : m ≡ 0 = omega arith in ap (λ k. total k f) (sym none)
total-first m (suc n) f less nothing =
    ⊎_elim
    (λ (all : m ≡ suc n). ap (λ k. total k f) (sym all))
    (λ (fewer : m < suc n).
    omega (arith, total-suc n f, nothing n (omega arith) (omega arith), total-first m n f (omega arith) (λ k from below. nothing k from (omega arith))))
    (eq-or-lt_of_le less)
