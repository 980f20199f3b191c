-- The first predictor of a name, and whether there is one.
use Rattle.std.proofs.Common.{◌⊎◌, ◌≡◌, ◌≤◌, inl, inr, ℕ, zero, suc, Bool, true, false, List, [], ◌∷◌, map, length, take, nat_le, if◌then◌else◌, Option, Some, None, refl, sym, subst, arith}
use Rattle.std.specs.Prelude.{IfSome, IfNone, option_map}
use Rattle.std.specs.List.{Contains}
use Rattle.std.specs.Str.{bytes_eq}
use Rattle.std.proofs.lemmas.List.{length-map}
use Rattle.std.proofs.lemmas.Slice.Eq.{bytes_eq-Decides}
use Rattle.sp_top.specs.Predictors.{first_of, for_trees, others_of}

module _ {X : Type 0} (f : X → List ℕ) (name : List ℕ) where
  abbrev is_named : X → Bool
  is_named x = bytes_eq (f x) name

  -- what stands behind the first one stands in the list
  behind : (x : List ℕ) (xs : List (List ℕ)) → Contains xs name → Contains (x ∷ xs) name
  behind x xs at = (suc at.0, omega (arith, at.1), at.2)

  ahead : (x : List ℕ) (xs : List (List ℕ)) → (x ≡ name → ⊥) → Contains (x ∷ xs) name → Contains xs name
  ahead x xs other (zero, low, is) = absurd (other is)
  ahead x xs other (suc k, low, is) = (k, omega (arith, low), is)

  -- the first one that is found has the name, and the name is one of those of the list
  found_named : (xs : List X) → IfSome (first_of is_named xs) (λ x. (f x ≡ name) × Contains (map f xs) name)
  found_named [] = tt
  found_named (x ∷ xs) = by (found_named xs) (is_named x) refl
    where
      later : (r : Option X) → IfSome r (λ y. (f y ≡ name) × Contains (map f xs) name) → IfSome r (λ y. (f y ≡ name) × Contains (map f (x ∷ xs)) name)
      later None is = tt
      later (Some y) is = (is.0, behind (f x) (map f xs) is.1)

      by : IfSome (first_of is_named xs) (λ y. (f y ≡ name) × Contains (map f xs) name) → (b : Bool) → is_named x ≡ b → IfSome (if b then Some x else first_of is_named xs) (λ y. (f y ≡ name) × Contains (map f (x ∷ xs)) name)
      by found true is = let same = (bytes_eq-Decides (f x) name).0 is in (same, (0, omega arith, same))
      by found false is = later (first_of is_named xs) found

  -- where none is found the name is none of those of the list
  none_named : (xs : List X) → IfNone (first_of is_named xs) (Contains (map f xs) name → ⊥)
  none_named [] = λ at. omega (arith, at.1)
  none_named (x ∷ xs) = by (none_named xs) (is_named x) refl
    where
      later : (r : Option X) → is_named x ≡ false → IfNone r (Contains (map f xs) name → ⊥) → IfNone r (Contains (map f (x ∷ xs)) name → ⊥)
      later None is none = λ at. none (ahead (f x) (map f xs) (λ same. let yes = (bytes_eq-Decides (f x) name).1 same in cc) at)
      later (Some y) is none = tt

      by : IfNone (first_of is_named xs) (Contains (map f xs) name → ⊥) → (b : Bool) → is_named x ≡ b → IfNone (if b then Some x else first_of is_named xs) (Contains (map f (x ∷ xs)) name → ⊥)
      by none true is = tt
      by none false is = later (first_of is_named xs) is none

  pub chosen : (xs : List X) (x : X) → Some x ≡ first_of is_named xs → (f x ≡ name) × Contains (map f xs) name
  chosen xs x is = subst (λ (r : Option X). IfSome r (λ y. (f y ≡ name) × Contains (map f xs) name)) (sym is) (found_named xs)

  pub not_chosen : (xs : List X) → None ≡ first_of is_named xs → Contains (map f xs) name → ⊥
  not_chosen xs is = subst (λ (r : Option X). IfNone r (Contains (map f xs) name → ⊥)) (sym is) (none_named xs)

  -- where there is one for each tree, the name is one of those of the list, and so many are there
  pub enough : (trees : ℕ) (xs ys : List X) → Some ys ≡ for_trees trees is_named xs → Contains (map f xs) name × (trees ≤ length (map f xs))
  enough trees xs ys are = by (nat_le trees (length xs)) refl (first_of is_named xs) refl are
    where
      by : (b : Bool) → nat_le trees (length xs) ≡ b → (o : Option X) → first_of is_named xs ≡ o
          → Some ys ≡ (if b then option_map (λ x. take trees (x ∷ others_of is_named xs)) o else None) → Contains (map f xs) name × (trees ≤ length (map f xs))
      by true e (Some x) found are = let same = length-map xs f in ((chosen xs x (sym found)).1, search arith)
      by true e None found are = absurd (cc are)
      by false e o found are = absurd (cc are)

  -- and where there is not, it is not, or so many are not there
  pub not_enough : (trees : ℕ) (xs : List X) → None ≡ for_trees trees is_named xs → Contains (map f xs) name × (trees ≤ length (map f xs)) → ⊥
  not_enough trees xs are there = by (nat_le trees (length xs)) refl (first_of is_named xs) refl are
    where
      by : (b : Bool) → nat_le trees (length xs) ≡ b → (o : Option X) → first_of is_named xs ≡ o
          → None ≡ (if b then option_map (λ x. take trees (x ∷ others_of is_named xs)) o else None) → ⊥
      by true e (Some x) found are = cc are
      by true e None found are = not_chosen xs (sym found) there.0
      by false e o found are = let same = length-map xs f in grind (arith, e, there.1, same)

-- a name is one of a list or not
pub is_there : (name : List ℕ) (xs : List (List ℕ)) → Contains xs name ⊎ (Contains xs name → ⊥)
is_there name [] = inr (λ at. omega (arith, at.1))
is_there name (x ∷ xs) = by (bytes_eq x name) refl (is_there name xs)
  where
    by : (b : Bool) → bytes_eq x name ≡ b → Contains xs name ⊎ (Contains xs name → ⊥) → Contains (x ∷ xs) name ⊎ (Contains (x ∷ xs) name → ⊥)
    by true is rest = inl (0, omega arith, (bytes_eq-Decides x name).0 is)
    by false is (inl there) = inl (behind (λ y. y) name x xs there)
    by false is (inr none) = inr (λ at. none (ahead (λ y. y) name x xs (λ same. let yes = (bytes_eq-Decides x name).1 same in cc) at))

-- a list that has a name has at least one
pub at_least : (trees : ℕ) (xs : List (List ℕ)) (name : List ℕ) → Contains xs name → trees ≤ 1 → trees ≤ length xs
at_least trees xs name at few = omega (arith, at.1, few)
