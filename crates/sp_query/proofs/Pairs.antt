-- Lists whose items are related one by one.
use Rattle.std.proofs.Common.{◌≡◌, ◌≢◌, IsTrue, ℕ, zero, suc, ◌+◌, ◌<◌, ◌⊎◌, inl, inr, Bool, true, false, List, [], ◌∷◌, ◌++◌, length, get_or, min, Option, Some, None, Bor, refl, sym, subst, arith}
use Rattle.std.proofs.iter.Yields.{fronts}
use Rattle.std.proofs.lemmas.Iterator.{zips}
use Rattle.std.proofs.lemmas.List.{length_push}
use Rattle.std.proofs.lemmas.Slice.Zip.{zip_turn, zip_end}
use Rattle.std.specs.declared.iter.Zip.{Zip}
use Rattle.std.specs.declared.slice.Iter.{Iter}
use Rattle.std.specs.Iterator.{Yields}
use Rattle.std.specs.Iterator.Adapters.{zip_first, zip_second}
use Rattle.std.specs.Slice.Iter.{iter_rest}
use Rattle.sp_query.specs.Same.{Pairwise}

pub pairs_length : {A : Type 0} (R : A → A → Type 0) (xs ys : List A) → Pairwise R xs ys → length xs ≡ length ys
pairs_length R [] [] p = refl
pairs_length R [] (y ∷ ys) p = absurd p
pairs_length R (x ∷ xs) [] p = absurd p
pairs_length R (x ∷ xs) (y ∷ ys) p = let i : length xs ≡ length ys = pairs_length R xs ys p.1 in omega arith

pub pairs_at : {A : Type 0} (R : A → A → Type 0) (xs ys : List A) → Pairwise R xs ys → (n : ℕ) (d : A) → n < length xs → R (get_or xs n d) (get_or ys n d)
pairs_at R [] [] p n d h = absurd (omega arith)
pairs_at R [] (y ∷ ys) p n d h = absurd p
pairs_at R (x ∷ xs) [] p n d h = absurd p
pairs_at R (x ∷ xs) (y ∷ ys) p zero d h = p.0
pairs_at R (x ∷ xs) (y ∷ ys) p (suc n) d h = pairs_at R xs ys p.1 n d (omega arith)

-- Two lists of one length, so related up to a place.
pub record PairsUpTo {A : Type 0} (R : A → A → Type 0) (xs ys : List A) (n : ℕ) : Type 0 where
  pub one_length : length xs ≡ length ys
  pub each : (k : ℕ) (d : A) → k < n → R (get_or xs k d) (get_or ys k d)

earlier_or_last : (k n : ℕ) → k < n + 1 → (k < n) ⊎ (k ≡ n)
earlier_or_last k n h = grind arith

-- The items at the place are so related, too.
pub pairs_on : {A : Type 0} (R : A → A → Type 0) (xs ys : List A) (n m : ℕ) (x y : A) → m ≡ n + 1 → ((d : A) → x ≡ get_or xs n d) → ((d : A) → y ≡ get_or ys n d) → R x y → PairsUpTo R xs ys n → PairsUpTo R xs ys m
pairs_on R xs ys n m x y e a b r p = record {
  one_length = p.one_length;
  each = λ k d h. elim (earlier_or_last k n (omega arith)) [
    | inl l ↦ p.each k d l
    | inr is ↦ subst (λ i. R (get_or xs i d) (get_or ys i d)) (sym is) (subst (λ z. R z (get_or ys n d)) (a d) (subst (λ z. R x z) (b d) r))
  ];
}

nothing_some : {A : Type 0} (x : A) (xs : List A) → 0 ≡ length (x ∷ xs) → ⊥
nothing_some x xs e = omega arith

pub pairs_all : {A : Type 0} (R : A → A → Type 0) (xs ys : List A) → PairsUpTo R xs ys (length xs) → Pairwise R xs ys
pairs_all R [] [] p = tt
pairs_all R [] (y ∷ ys) p = absurd (nothing_some y ys p.one_length)
pairs_all R (x ∷ xs) [] p = absurd (nothing_some x xs (sym p.one_length))
pairs_all R (x ∷ xs) (y ∷ ys) p = (
  p.each 0 x (omega arith),
  pairs_all R xs ys (record {
    one_length = let e : length (x ∷ xs) ≡ length (y ∷ ys) = p.one_length in omega arith;
    each = λ k d h. p.each (suc k) d (omega arith);
  }),
)

-- ---- as the code asks

abbrev pub Told : Bool → Type 0 → Type 0
Told b P = (IsTrue b → P) × (P → IsTrue b)

pub false_told : (P : Type 0) → (P → ⊥) → Told false P
false_told P none = (λ h. cc, λ p. absurd (none p))

pub lengths_differ : {A : Type 0} (R : A → A → Type 0) (xs ys : List A) → length xs ≢ length ys → Told false (Pairwise R xs ys)
lengths_differ R xs ys n = false_told (Pairwise R xs ys) (λ p. n (pairs_length R xs ys p))

-- The items at a place are not so related.
pub items_differ : {A : Type 0} (R : A → A → Type 0) (xs ys : List A) (n : ℕ) (x y : A) → n < length xs → ((d : A) → x ≡ get_or xs n d) → ((d : A) → y ≡ get_or ys n d) → (R x y → ⊥) → Told false (Pairwise R xs ys)
items_differ R xs ys n x y l a b none = false_told (Pairwise R xs ys) (λ p. none (subst (λ z. R z y) (sym (a x)) (subst (λ z. R (get_or xs n x) z) (sym (b x)) (pairs_at R xs ys p n x l))))

pub all_alike : {A : Type 0} (R : A → A → Type 0) (xs ys : List A) (n : ℕ) → n ≡ length xs → PairsUpTo R xs ys n → Told true (Pairwise R xs ys)
all_alike R xs ys n e p = (λ h. pairs_all R xs ys (subst (PairsUpTo R xs ys) e p), λ q. refl)

-- ---- in a loop over both lists at once

module _ {A : Type 0} (R : A → A → Type 0) (xs ys : List A) (seen : List (Bor A × Bor A)) (s t u : Zip (Iter A) (Iter A)) (r : Option (Bor A × Bor A))
    (first : iter_rest (zip_first s) ≡ xs) (second : iter_rest (zip_second s) ≡ ys) (yielded : Yields (zips fronts fronts) s seen t) where
  pub differ_here : (p : Bor A × Bor A) → r ≡ Some p → zips fronts fronts t r u → (b : Bool) → b ≡ false → Told b (R p.0.now p.1.now) → Told false (Pairwise R xs ys)
  differ_here p is step b e told =
      let h = zip_turn xs ys seen s t u r first second yielded p is step in
      items_differ R xs ys (length seen) p.0.now p.1.now h.0 h.2 h.3 (λ h. cc (told.1 h, e))

  pub alike_here : (p : Bor A × Bor A) → r ≡ Some p → zips fronts fronts t r u → (b : Bool) → b ≡ true → Told b (R p.0.now p.1.now) → PairsUpTo R xs ys (length seen) → PairsUpTo R xs ys (length (seen ++ p ∷ []))
  alike_here p is step b e told before =
      let h = zip_turn xs ys seen s t u r first second yielded p is step in
      pairs_on R xs ys (length seen) (length (seen ++ p ∷ [])) p.0.now p.1.now (length_push seen p) h.2 h.3 (told.0 e) before

  pub alike_whole : r ≡ None → zips fronts fronts t r u → PairsUpTo R xs ys (length seen) → Told true (Pairwise R xs ys)
  alike_whole is step before =
      let h : length seen ≡ min (length xs) (length ys) = zip_end xs ys seen s t u r first second yielded is step in
      let e : length xs ≡ length ys = before.one_length in
      all_alike R xs ys (length seen) (omega arith) before
