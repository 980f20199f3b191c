-- How often a number stands in a list that is in order, by the places where it would begin and end.
use Rattle.std.proofs.Common.{◌≡◌, ℕ, zero, suc, ◌+◌, ◌-◌, ◌≤◌, Bool, true, false, cond, ◌==◌, nat_lt, nat_le, List, [], ◌∷◌, length, filter, refl}
use Rattle.std.proofs.Common.{ap, ◌∙◌, arith}
use Rattle.std.specs.List.{AllWithin}
use Rattle.std.proofs.lemmas.Bool.Decides.{nat_tests}
use Rattle.sp_pick.proofs.Taken.{is_it}

-- as many pass the test as stand before the place up to which all pass it, and from which on none does
counted : (p : ℕ → Bool) (xs : List ℕ) (i : ℕ) → i ≤ length xs → AllWithin (λ x. p x ≡ true) xs 0 i → AllWithin (λ x. p x ≡ false) xs i (length xs)
    → length (filter p xs) ≡ i
counted p [] i within before behind = omega arith
counted p (x ∷ xs) zero within before behind =
    ap (λ (b : Bool). length (cond b (x ∷ filter p xs) (filter p xs))) (behind 0 0 (omega arith) (omega arith))
    ∙ counted p xs zero (omega arith) (λ k d low high. absurd (omega arith)) (λ k d low high. behind (suc k) d (omega arith) (omega arith))
counted p (x ∷ xs) (suc i) within before behind =
    ap (λ (b : Bool). length (cond b (x ∷ filter p xs) (filter p xs))) (before 0 0 (omega arith) (omega arith))
    ∙ ap suc (counted p xs i (omega arith) (λ k d low high. before (suc k) d (omega arith) (omega arith))
    (λ k d low high. behind (suc k) d (omega arith) (omega arith)))

-- those that are no greater are those that are less, and those that are the number
split : (xs : List ℕ) (n : ℕ) → length (filter (λ x. nat_le x n) xs) ≡ length (filter (λ x. nat_lt x n) xs) + length (filter (is_it n) xs)
split [] n = refl
split (x ∷ xs) n = one (nat_le x n) (nat_lt x n) (x == n) refl refl refl (split xs n)
  where
    one : (b c d : Bool) → nat_le x n ≡ b → nat_lt x n ≡ c → (x == n) ≡ d
        → length (filter (λ x. nat_le x n) xs) ≡ length (filter (λ x. nat_lt x n) xs) + length (filter (is_it n) xs)
        → length (cond b (x ∷ filter (λ x. nat_le x n) xs) (filter (λ x. nat_le x n) xs))
        ≡ length (cond c (x ∷ filter (λ x. nat_lt x n) xs) (filter (λ x. nat_lt x n) xs)) + length
        (cond d (x ∷ filter (is_it n) xs) (filter (is_it n) xs))
    one true true true p q r rest = absurd (grind (arith, nat_tests))
    one true true false p q r rest = omega arith
    one true false true p q r rest = omega arith
    one true false false p q r rest = absurd (grind (arith, nat_tests))
    one false true d p q r rest = absurd (grind (arith, nat_tests))
    one false false true p q r rest = absurd (grind (arith, nat_tests))
    one false false false p q r rest = rest

-- what stands between two such places is the number
pub record IsBetween (xs : List ℕ) (n low high : ℕ) : Type 0 where
  pub below : low ≤ high
  pub many : high - low ≡ length (filter (is_it n) xs)

pub between : (xs : List ℕ) (n low high : ℕ) → low ≤ length xs → high ≤ length xs → AllWithin (λ x. nat_le x n ≡ true) xs 0 high
    × AllWithin (λ x. nat_le x n ≡ false) xs high (length xs)
    → AllWithin (λ x. nat_lt x n ≡ true) xs 0 low × AllWithin (λ x. nat_lt x n ≡ false) xs low (length xs) → IsBetween xs n low high
between xs n low high within within' upto under =
    let all = counted (λ x. nat_le x n) xs high within' upto.0 upto.1 in
    let less = counted (λ x. nat_lt x n) xs low within under.0 under.1 in
    let sum = split xs n in
    record { below = omega arith; many = omega arith }
