-- The first of a list that is so, apart from the others, as a walk along the list finds it.
use Rattle.std.proofs.Common.{◌≡◌, ◌∙◌, ◌<◌, ◌≤◌, ◌+◌, ℕ, Bool, true, false, List, [], ◌∷◌, ◌++◌, if◌then◌else◌, Some, None, length, take, drop, get_or, nat_le, refl, sym, subst, ap, arith, append_assoc, drop-cons, add-one}
use Rattle.std.specs.Prelude.{slice_get, remove, option_map}
use Rattle.std.specs.Str.{bytes_eq}
use Rattle.std.proofs.Math.Seq.{drop-append_seam, take-append_seam}
use Rattle.std.proofs.lemmas.List.{take_more}
use Rattle.std.proofs.lemmas.Option.{slice_get-get_or}
use Rattle.sp_top.specs.Predictors.{first_of, for_trees, others_of}

module _ {X : Type 0} (is : X → Bool) (xs : List X) (i : ℕ) (d : X) (low : i < length xs) where
  abbrev at : X
  at = get_or xs i d

  rest_is : drop i xs ≡ at ∷ drop (i + 1) xs
  rest_is = drop-cons xs i d low ∙ ap (λ (n : ℕ). at ∷ drop n xs) (sym (add-one i))

  -- behind one that is not so
  pub first_on : is at ≡ false → first_of is (drop i xs) ≡ first_of is (drop (i + 1) xs)
  first_on other = ap (first_of is) rest_is ∙ ap (λ (b : Bool). if b then Some at else first_of is (drop (i + 1) xs)) other

  pub others_on : is at ≡ false → take i xs ++ others_of is (drop i xs) ≡ take (i + 1) xs ++ others_of is (drop (i + 1) xs)
  others_on other =
      ap (λ (l : List X). take i xs ++ others_of is l) rest_is
      ∙ ap (λ (b : Bool). take i xs ++ (if b then drop (i + 1) xs else at ∷ others_of is (drop (i + 1) xs))) other
      ∙ sym (append_assoc (take i xs) (at ∷ []) (others_of is (drop (i + 1) xs)))
      ∙ ap (λ (l : List X). l ++ others_of is (drop (i + 1) xs)) (sym (take_more xs i d low))

  -- at the first that is so
  pub first_at : is at ≡ true → slice_get xs i ≡ first_of is (drop i xs)
  first_at own =
      slice_get-get_or xs i d low
      ∙ sym (ap (first_of is) rest_is ∙ ap (λ (b : Bool). if b then Some at else first_of is (drop (i + 1) xs)) own)

  pub others_at : is at ≡ true → remove xs i ≡ take i xs ++ others_of is (drop i xs)
  others_at own =
      ap (λ (n : ℕ). take i xs ++ drop n xs) (sym (add-one i))
      ∙ sym (ap (λ (l : List X). take i xs ++ others_of is l) rest_is
      ∙ ap (λ (b : Bool). take i xs ++ (if b then drop (i + 1) xs else at ∷ others_of is (drop (i + 1) xs))) own)

-- what is taken out at the place of the first of a name
module _ {X : Type 0} (f : X → List ℕ) (name given : List ℕ) (xs looked : List X) (i : ℕ) (x : X) (text : given ≡ name) (list : looked ≡ xs) (low : i < length looked) where
  pub taken : slice_get looked i ≡ first_of (λ one. bytes_eq (f one) given) looked → x ≡ get_or xs i x → Some x ≡ first_of (λ one. bytes_eq (f one) name) xs
  taken found is =
      ap (λ (y : X). Some y) is ∙ sym (slice_get-get_or xs i x (subst (λ (l : List X). i < length l) list low))
      ∙ (λ j. slice_get (sym list j) i) ∙ found ∙ (λ j. first_of (λ one. bytes_eq (f one) (text j)) (list j))

  pub left : remove looked i ≡ others_of (λ one. bytes_eq (f one) given) looked → remove xs i ≡ others_of (λ one. bytes_eq (f one) name) xs
  left found = (λ j. remove (sym list j) i) ∙ found ∙ (λ j. others_of (λ one. bytes_eq (f one) (text j)) (list j))

-- the first that is so, brought from the end of the others to their front, with as many of them as there are trees
module _ {X : Type 0} (is : X → Bool) (trees : ℕ) (xs : List X) where
  where_enough : (b : Bool) → nat_le trees (length xs) ≡ b → trees ≤ length xs → for_trees trees is xs ≡ option_map (λ x. take trees (x ∷ others_of is xs)) (first_of is xs)
  where_enough true e enough = ap (λ (t : Bool). if t then option_map (λ x. take trees (x ∷ others_of is xs)) (first_of is xs) else None) e
  where_enough false e enough = absurd (grind (arith, e, enough))

  pub brought : trees ≤ length xs → (x : X) → Some x ≡ first_of is xs → (others : List X) → others ≡ others_of is xs
      → (list : List X) → list ≡ others ++ x ∷ [] → (n : ℕ) → n ≡ length others → Some (take trees (drop n list ++ take n list)) ≡ for_trees trees is xs
  brought enough x found others left list put n all =
      (λ i. Some (take trees (drop (all i) (put i) ++ take (all i) (put i))))
      ∙ (λ i. Some (take trees (drop-append_seam others (x ∷ []) i ++ take-append_seam others (x ∷ []) i)))
      ∙ ap (λ (l : List X). Some (take trees (x ∷ l))) left
      ∙ ap (option_map (λ y. take trees (y ∷ others_of is xs))) found
      ∙ sym (where_enough (nat_le trees (length xs)) refl enough)
