-- Lists that are split at a place.
use Rattle.std.proofs.Common.{◌≡◌, ℕ, ◌+◌, ◌<◌, Bool, true, false, cond, List, [], ◌∷◌, ◌++◌, length, get_or, set, take, drop, refl, sym, ap, subst, ◌∙◌, arith}
use Rattle.std.specs.List.{All, filter, remove}
use Rattle.std.proofs.lemmas.List.{append-nil, drop_all, drop_more, take_all}
use Rattle.std.proofs.lemmas.List.Elements.{All-head, filter_more}

get_middle : {X : Type 0} (front rest : List X) (x d : X) → get_or (front ++ x ∷ rest) (length front) d ≡ x
get_middle [] rest x d = refl
get_middle (y ∷ front) rest x d = get_middle front rest x d

remove_middle : {X : Type 0} (front rest : List X) (x : X) → remove (front ++ x ∷ rest) (length front) ≡ front ++ rest
remove_middle [] rest x = refl
remove_middle (y ∷ front) rest x = ap (λ l. y ∷ l) (remove_middle front rest x)

set_middle : {X : Type 0} (front rest : List X) (x y : X) → set (front ++ x ∷ rest) (length front) y ≡ front ++ y ∷ rest
set_middle [] rest x y = refl
set_middle (z ∷ front) rest x y = ap (λ l. z ∷ l) (set_middle front rest x y)

take_front : {X : Type 0} (front rest : List X) → take (length front) (front ++ rest) ≡ front
take_front [] rest = refl
take_front (y ∷ front) rest = ap (λ l. y ∷ l) (take_front front rest)

drop_front : {X : Type 0} (front rest : List X) → drop (length front) (front ++ rest) ≡ rest
drop_front [] rest = refl
drop_front (y ∷ front) rest = drop_front front rest

-- of a list with an element at the place
module _ {X : Type 0} (xs front rest : List X) (x : X) (at : ℕ) (split : xs ≡ front ++ x ∷ rest) (size : length front ≡ at) where
  pub read_there : (d : X) → get_or xs at d ≡ x
  read_there d = (λ i. get_or (split i) (sym size i) d) ∙ get_middle front rest x d

  pub removed_there : remove xs at ≡ front ++ rest
  removed_there = (λ i. remove (split i) (sym size i)) ∙ remove_middle front rest x

  pub set_there : (y : X) → set xs at y ≡ front ++ y ∷ rest
  set_there y = (λ i. set (split i) (sym size i) y) ∙ set_middle front rest x y

-- of a list that is split there
module _ {X : Type 0} (xs front rest : List X) (at : ℕ) (split : xs ≡ front ++ rest) (size : length front ≡ at) where
  pub front_there : take at xs ≡ front
  front_there = (λ i. take (sym size i) (split i)) ∙ take_front front rest

  pub rest_there : drop at xs ≡ rest
  rest_there = (λ i. drop (sym size i) (split i)) ∙ drop_front front rest

-- what is so from a place on is so at the place, as it is read
pub first_of_rest : {X : Type 0} (P : X → Type 0) (xs : List X) (at : ℕ) (x : X) → at < length xs → All P (drop at xs) → x ≡ get_or xs at x → P x
first_of_rest P xs at x within all is = subst P (sym is) (All-head P (get_or xs at x) (drop (at + 1) xs) (subst (All P) (drop_more xs at x within) all))

-- one element more of those that pass
pub filter_passes : {X : Type 0} (p : X → Bool) (xs : List X) (i : ℕ) (d : X) → i < length xs → p (get_or xs i d) ≡ true → filter p (take (i + 1) xs) ≡ filter p (take i xs) ++ get_or xs i d ∷ []
filter_passes p xs i d within passes = filter_more p xs i d within ∙ λ k. filter p (take i xs) ++ cond (passes k) (get_or xs i d ∷ []) []

pub filter_fails : {X : Type 0} (p : X → Bool) (xs : List X) (i : ℕ) (d : X) → i < length xs → p (get_or xs i d) ≡ false → filter p (take (i + 1) xs) ≡ filter p (take i xs)
filter_fails p xs i d within fails = filter_more p xs i d within ∙ (λ k. filter p (take i xs) ++ cond (fails k) (get_or xs i d ∷ []) []) ∙ append-nil (filter p (take i xs))

-- a list of the same length in place of another, as a vector has it that a slice was lent from
pub written_back : {X : Type 0} (xs ys : List X) (n : ℕ) → n ≡ length xs → length ys ≡ length xs → take n (ys ++ drop (length ys) xs) ≡ ys
written_back xs ys n size same = ap (λ l. take n (ys ++ l)) (drop_all (length ys) xs (omega (arith, same))) ∙ ap (take n) (append-nil ys) ∙ take_all n ys (omega (arith, size, same))
