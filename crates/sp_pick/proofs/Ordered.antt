-- Lists that are in order by a test, and the order that a list can be put into.
use Rattle.std.proofs.Common.{◌≡◌, ℕ, zero, suc, ◌+◌, Bool, true, false, cond, List, [], ◌∷◌, get_or, refl, subst, arith, IsPermutation}
use Rattle.std.specs.Cmp.{IsStrictWeakOrder}
use Rattle.std.specs.List.{AllByRecursion}
use Rattle.std.specs.List.Sorted.{IsSortedBy}
use Rattle.std.proofs.lemmas.List.Sorted.{IsPermutation-refl, IsPermutation-cons, IsPermutation-swap, IsPermutation-trans}

module _ {X : Type 0} (lt : X → X → Bool) where
  -- none of these comes before it
  abbrev pub NoneBefore : X → List X → Type 0
  NoneBefore x xs = AllByRecursion (λ y. lt y x ≡ false) xs

  -- none comes before one in front of it
  abbrev pub AreInOrder : List X → Type 0
  AreInOrder [] = Unit {0}
  AreInOrder (x ∷ xs) = NoneBefore x xs × AreInOrder xs

  -- an element put to its place, and all of them
  pub put : X → List X → List X
  put x [] = x ∷ []
  put x (y ∷ ys) = cond (lt y x) (y ∷ put x ys) (x ∷ y ∷ ys)

  pub in_order : List X → List X
  in_order [] = []
  in_order (x ∷ xs) = put x (in_order xs)

  put_moves : (x : X) (ys : List X) → IsPermutation (x ∷ ys) (put x ys)
  unfolding put
  put_moves x [] = IsPermutation-refl (x ∷ [])
  put_moves x (y ∷ ys) = one (put_moves x ys) (lt y x)
    where
      one : IsPermutation (x ∷ ys) (put x ys) → (b : Bool) → IsPermutation (x ∷ y ∷ ys) (cond b (y ∷ put x ys) (x ∷ y ∷ ys))
      one rest true =
          IsPermutation-trans (x ∷ y ∷ ys) (y ∷ x ∷ ys) (y ∷ put x ys)
          (IsPermutation-swap (x ∷ y ∷ ys) (y ∷ x ∷ ys) 0 1 (omega arith) (omega arith) refl)
          (IsPermutation-cons y (x ∷ ys) (put x ys) rest)
      one rest false = IsPermutation-refl (x ∷ y ∷ ys)

  pub in_order_moves : (xs : List X) → IsPermutation xs (in_order xs)
  unfolding in_order
  in_order_moves [] = IsPermutation-refl []
  in_order_moves (x ∷ xs) =
      IsPermutation-trans (x ∷ xs) (x ∷ in_order xs) (put x (in_order xs)) (IsPermutation-cons x xs (in_order xs) (in_order_moves xs))
      (put_moves x (in_order xs))

  module _ (o : IsStrictWeakOrder lt) where
    -- what is before none of these, where it is not behind the first of them
    pub lower : (x y : X) (ys : List X) → lt y x ≡ false → NoneBefore y ys → NoneBefore x ys
    lower x y [] low none = tt
    lower x y (z ∷ zs) low none = (o.chain z y x none.0 low, lower x y zs low none.1)

    put_none : (x y : X) (ys : List X) → lt x y ≡ false → NoneBefore y ys → NoneBefore y (put x ys)
    unfolding put
    put_none x y [] low none = (low, tt)
    put_none x y (z ∷ zs) low none = one (put_none x y zs low none.1) (lt z x)
      where
        one : NoneBefore y (put x zs) → (b : Bool) → NoneBefore y (cond b (z ∷ put x zs) (x ∷ z ∷ zs))
        one rest true = (none.0, rest)
        one rest false = (low, none)

    put_ordered : (x : X) (ys : List X) → AreInOrder ys → AreInOrder (put x ys)
    unfolding put
    put_ordered x [] h = (tt, tt)
    put_ordered x (y ∷ ys) h = one (put_ordered x ys h.1) (lt y x) refl
      where
        one : AreInOrder (put x ys) → (b : Bool) → lt y x ≡ b → AreInOrder (cond b (y ∷ put x ys) (x ∷ y ∷ ys))
        one rest true is = (put_none x y ys (o.one_way y x is) h.0, rest)
        one rest false is = ((is, lower x y ys is h.0), h)

    pub ordered : (xs : List X) → AreInOrder (in_order xs)
    unfolding in_order
    ordered [] = tt
    ordered (x ∷ xs) = put_ordered x (in_order xs) (ordered xs)

  -- by places
  pub sorted : (xs : List X) → AreInOrder xs → IsSortedBy lt xs
  sorted [] h k d low within = absurd (omega arith)
  sorted (x ∷ []) h k d low within = absurd (omega arith)
  sorted (x ∷ y ∷ ys) h zero d low within = h.0.0
  sorted (x ∷ y ∷ ys) h (suc k) d low within =
      subst (λ n. lt (get_or (x ∷ y ∷ ys) n d) (get_or (y ∷ ys) k d) ≡ false) (more k) (sorted (y ∷ ys) h.1 k d (omega arith) (omega arith))
    where
      more : (k : ℕ) → suc (k + 1) ≡ suc k + 1
      more k = omega arith
