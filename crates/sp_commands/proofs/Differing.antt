-- Two listings have the same entries, or there is one first entry at which they differ.
use Rattle.std.proofs.Common.{◌≡◌, ◌≢◌, ◌⊎◌, inl, inr, ℕ, zero, suc, ◌+◌, ◌-◌, ◌<◌, List, [], ◌∷◌, take, Some, refl, sym, ◌∙◌, ap, subst, arith}
use Rattle.std.specs.Prelude.{slice_get}
use Rattle.std.proofs.Math.Decide.{ℕ_discrete, dec_lt, map_dec}
use Rattle.sp_plan.specs.declared.found.Match.{Match}
use Rattle.sp_listing.specs.Listing.{Entry}
use Rattle.sp_cert.specs.Verdicts.{DiffersFirst}

-- ---- whether entries are the same

both : {A B : Type 0} → Dec A → Dec B → Dec (A × B)
both (yes a) (yes b) = yes (a, b)
both (yes a) (no g) = no (λ p. g p.1)
both (no f) second = no (λ p. f p.0)

same_lists : {X : Type 0} → ((x y : X) → Dec (x ≡ y)) → (xs ys : List X) → Dec (xs ≡ ys)
same_lists same [] [] = yes refl
same_lists same [] (y ∷ ys) = no (λ e. cc)
same_lists same (x ∷ xs) [] = no (λ e. cc)
same_lists same (x ∷ xs) (y ∷ ys) = map_dec (λ p i. p.0 i ∷ p.1 i) (λ e. (cc e, cc e)) (both (same x y) (same_lists same xs ys))

same_numbers : (xs ys : List ℕ) → Dec (xs ≡ ys)
same_numbers = same_lists ℕ_discrete

same_pair : (x y : ℕ × List ℕ) → Dec (x ≡ y)
same_pair x y = map_dec (λ p i. (p.0 i, p.1 i)) (λ e. (ap (λ (z : ℕ × List ℕ). z.0) e, ap (λ (z : ℕ × List ℕ). z.1) e)) (both (ℕ_discrete x.0 y.0) (same_numbers x.1 y.1))

same_match : (x y : Match) → Dec (x ≡ y)
same_match x y =
    map_dec (λ p i. record { window = p.0 i; number = p.1.0 i; bound = p.1.1.0 i; used = p.1.1.1 i })
    (λ e. (ap (λ (z : Match). z.window) e, (ap (λ (z : Match). z.number) e, (ap (λ (z : Match). z.bound) e, ap (λ (z : Match). z.used) e))))
    (both (ℕ_discrete x.window y.window) (both (ℕ_discrete x.number y.number) (both (same_lists same_pair x.bound y.bound) (same_numbers x.used y.used))))

same_events : (x y : Entry) → Dec ((x.skipped ≡ y.skipped) × ((x.used ≡ y.used) × (x.matches ≡ y.matches)))
same_events x y = both (same_numbers x.skipped y.skipped) (both (same_numbers x.used y.used) (same_lists same_match x.matches y.matches))

same_entry : (x y : Entry) → Dec (x ≡ y)
same_entry x y =
    map_dec (λ p i. record { window = p.0 i; first = p.1.0 i; last = p.1.1.0 i; skipped = p.1.1.1.0 i; used = p.1.1.1.1.0 i; matches = p.1.1.1.1.1 i })
    (λ e. (
      ap (λ (z : Entry). z.window) e,
      (
        ap (λ (z : Entry). z.first) e,
        (
          ap (λ (z : Entry). z.last) e,
          (
            ap (λ (z : Entry). z.skipped) e,
            (
              ap (λ (z : Entry). z.used) e,
              ap (λ (z : Entry). z.matches) e,
            ),
          ),
        ),
      ),
    ))
    (both (ℕ_discrete x.window y.window) (both (ℕ_discrete x.first y.first) (both (ℕ_discrete x.last y.last) (same_events x y))))

-- ---- where they differ first

-- The entries at this place, from 0, are the first that differ.
record DiffersAt (xs ys : List Entry) (k : ℕ) : Type 0 where
  before : take k xs ≡ take k ys
  differs : slice_get xs k ≢ slice_get ys k

further : (x y : Entry) (xs ys : List Entry) (k : ℕ) → x ≡ y → DiffersAt xs ys k → DiffersAt (x ∷ xs) (y ∷ ys) (suc k)
further x y xs ys k same at = record { before = λ i. same i ∷ at.before i; differs = at.differs }

place_of : (xs ys : List Entry) → (xs ≡ ys) ⊎ ((k : ℕ) × DiffersAt xs ys k)
place_of [] [] = inl refl
place_of [] (y ∷ ys) = inr (0, record { before = refl; differs = λ e. cc })
place_of (x ∷ xs) [] = inr (0, record { before = refl; differs = λ e. cc })
place_of (x ∷ xs) (y ∷ ys) = by (same_entry x y) (place_of xs ys)
  where
    by : Dec (x ≡ y) → (xs ≡ ys) ⊎ ((k : ℕ) × DiffersAt xs ys k) → (x ∷ xs ≡ y ∷ ys) ⊎ ((k : ℕ) × DiffersAt (x ∷ xs) (y ∷ ys) k)
    by (no other) rest = inr (0, record { before = refl; differs = λ e. other (let heads : Some x ≡ Some y = e in cc heads) })
    by (yes same) (inl more) = inl (λ i. same i ∷ more i)
    by (yes same) (inr at) = inr (suc at.0, further x y xs ys at.0 same at.1)

pub same_or_differ : (xs ys : List Entry) → (xs ≡ ys) ⊎ ((n : ℕ) × DiffersFirst xs ys n)
same_or_differ xs ys = by (place_of xs ys)
  where
    numbered : (k : ℕ) → DiffersAt xs ys k → DiffersFirst xs ys (k + 1)
    numbered k at =
        let own : k ≡ k + 1 - 1 = omega arith in
        record {
          low = omega arith;
          before = subst (λ (j : ℕ). take j xs ≡ take j ys) own at.before;
          differs = subst (λ (j : ℕ). ¬ (slice_get xs j ≡ slice_get ys j)) own at.differs;
        }

    by : (xs ≡ ys) ⊎ ((k : ℕ) × DiffersAt xs ys k) → (xs ≡ ys) ⊎ ((n : ℕ) × DiffersFirst xs ys n)
    by (inl same) = inl same
    by (inr at) = inr (at.0 + 1, numbered at.0 at.1)

-- ---- one such entry

get_in_front : {X : Type 0} (xs : List X) (k n : ℕ) → k < n → slice_get (take n xs) k ≡ slice_get xs k
get_in_front [] k zero below = absurd (omega (arith, below))
get_in_front [] k (suc n) below = refl
get_in_front (x ∷ xs) k zero below = absurd (omega (arith, below))
get_in_front (x ∷ xs) zero (suc n) below = refl
get_in_front (x ∷ xs) (suc k) (suc n) below = get_in_front xs k n (omega (arith, below))

not_before : (xs ys : List Entry) (m n : ℕ) → DiffersFirst xs ys m → DiffersFirst xs ys n → m < n → ⊥
not_before xs ys m n one other below =
    let inside : m - 1 < n - 1 = omega (arith, below, one.low) in
    one.differs (sym (get_in_front xs (m - 1) (n - 1) inside) ∙ ap (λ (front : List Entry). slice_get front (m - 1)) other.before ∙ get_in_front ys (m - 1) (n - 1) inside)

pub one_difference : (xs ys : List Entry) (m n : ℕ) → DiffersFirst xs ys m → DiffersFirst xs ys n → m ≡ n
one_difference xs ys m n one other = by (dec_lt m n) (dec_lt n m)
  where
    by : Dec (m < n) → Dec (n < m) → m ≡ n
    by (yes up) down = absurd (not_before xs ys m n one other up)
    by (no level) (yes down) = absurd (not_before xs ys n m other one down)
    by (no level) (no flat) = grind arith
