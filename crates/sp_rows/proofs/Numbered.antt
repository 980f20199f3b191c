-- Texts and their numbers, where a list has something for each text.
use Rattle.std.proofs.Common.{◌≡◌, inl, inr, ℕ, zero, suc, ◌+◌, ◌<◌, get_or, Bool, true, false, true≢false, ◌||◌, not, cond, List, [], ◌∷◌, ◌++◌, length, map, Some, None, refl, sym, ◌∙◌, ap, subst, arith}
use Rattle.std.specs.Prelude.{if◌then◌else◌, nat_lt}
use Rattle.std.specs.List.{list_any, position, position_or_len, slice_get, AllByRecursion, IsDistinct}
use Rattle.std.specs.Str.{bytes_eq}
use Rattle.std.proofs.lemmas.Bool.{cases_Bool}
use Rattle.std.proofs.lemmas.List.{map-append}
use Rattle.std.proofs.lemmas.Option.{slice_get_read}
use Rattle.std.proofs.lemmas.Map.Keys.{IsDistinct-head, IsDistinct-tail}
use Rattle.std.proofs.lemmas.Slice.Eq.{bytes_eq-Decides}
use Rattle.sp_plan.specs.Texts.{symbol_of, with_text}

-- what was looked at in a slice of a list stands there
pub stands_there : {X : Type 0} (xs own : List X) (i : ℕ) (x : X) → own ≡ xs → i < length own → x ≡ get_or own i x → slice_get xs i ≡ Some x
stands_there {X = X} xs own i x same within read = ap (λ (l : List X). slice_get l i) (sym same) ∙ slice_get_read own (length own) i x refl within read

module _ {X : Type 0} (f : X → List ℕ) where
  -- a test finds the same place among the texts
  pub place_of_texts : (p : List ℕ → Bool) (xs : List X) → position_or_len (λ x. p (f x)) xs ≡ position_or_len p (map f xs)
  place_of_texts p [] = refl
  place_of_texts p (x ∷ xs) = ap (λ (n : ℕ). cond (not (p (f x))) (1 + n) 0) (place_of_texts p xs)

  -- a test passes at one of the texts
  pub any_of_texts : (p : List ℕ → Bool) (xs : List X) → list_any (λ x. p (f x)) xs ≡ list_any p (map f xs)
  any_of_texts p [] = refl
  any_of_texts p (x ∷ xs) = ap (λ (b : Bool). p (f x) || b) (any_of_texts p xs)

  -- the texts of a list that may get one more
  map_choice : (b : Bool) (xs : List X) (x : X) → map f (if b then xs else xs ++ x ∷ []) ≡ (if b then map f xs else map f xs ++ f x ∷ [])
  map_choice true xs x = refl
  map_choice false xs x = map-append f xs (x ∷ [])

  -- what is added for a text that may be known
  pub added_text : (xs : List X) (x : X) → map f (if list_any (λ y. bytes_eq (f x) (f y)) xs then xs else xs ++ x ∷ []) ≡ with_text (map f xs) (f x)
  added_text xs x =
      map_choice (list_any (λ y. bytes_eq (f x) (f y)) xs) xs x
      ∙ ap (λ (b : Bool). if b then map f xs else map f xs ++ f x ∷ []) (any_of_texts (bytes_eq (f x)) xs)

  -- a text that was found has its place as its number
  pub found_number : (text : List ℕ) (xs : List X) (i : ℕ) → Some i ≡ position (λ x. bytes_eq text (f x)) xs → i ≡ symbol_of (map f xs) text
  found_number text xs i is = found_place (λ x. bytes_eq text (f x)) xs i is ∙ place_of_texts (bytes_eq text) xs
    where
      by : (b : Bool) (n i : ℕ) → Some i ≡ cond b (Some n) None → i ≡ n
      by true n i same = cc
      by false n i same = absurd (cc same)

      found_place : (p : X → Bool) (xs : List X) (i : ℕ) → Some i ≡ position p xs → i ≡ position_or_len p xs
      found_place p xs i same = by (nat_lt (position_or_len p xs) (length xs)) (position_or_len p xs) i same

  -- a text that was found is known
  pub found_known : (text : List ℕ) (xs : List X) → list_any (λ x. bytes_eq text (f x)) xs ≡ true → map f xs ≡ with_text (map f xs) text
  found_known text xs known = let any : list_any (bytes_eq text) (map f xs) ≡ true = sym (any_of_texts (bytes_eq text) xs) ∙ known in rw any refl

  -- what is true of all is true of the one at a place
  true_there : (P : X → Type 0) (xs : List X) (i : ℕ) (x : X) → AllByRecursion P xs → slice_get xs i ≡ Some x → P x
  true_there P [] i x all is = absurd (cc is)
  true_there P (y ∷ ys) zero x all is = let same : y ≡ x = cc in subst P same all.0
  true_there P (y ∷ ys) (suc i) x all is = true_there P ys i x all.1 is

  -- a text that stands at a place is known
  any_there : (p : X → Bool) (xs : List X) (i : ℕ) (x : X) → slice_get xs i ≡ Some x → p x ≡ true → list_any p xs ≡ true
  any_there p [] i x is passes = absurd (cc is)
  any_there p (y ∷ ys) zero x is passes = let same : y ≡ x = cc in rw (ap p same ∙ passes) refl
  any_there p (y ∷ ys) (suc i) x is passes = elim (cases_Bool (p y)) [
    | inl first ↦ rw first refl
    | inr other ↦ rw other (any_there p ys i x is passes)
  ]

  pub there_known : (text : List ℕ) (xs : List X) (i : ℕ) (x : X) → slice_get xs i ≡ Some x → bytes_eq text (f x) ≡ true → map f xs ≡ with_text (map f xs) text
  there_known text xs i x is same = found_known text xs (any_there (λ y. bytes_eq text (f y)) xs i x is same)

  -- where no text stands twice, one has the place as its number at which it stands
  only_place : (e : X → X → Bool) → ((x y : X) → e x y ≡ bytes_eq (f x) (f y)) → (text : List ℕ) (xs : List X) (i : ℕ) (x : X) → IsDistinct e xs → slice_get xs i ≡ Some x → bytes_eq text (f x) ≡ true
      → i ≡ position_or_len (λ y. bytes_eq text (f y)) xs
  only_place e by text [] i x distinct is same = absurd (cc is)
  only_place e by text (y ∷ ys) zero x distinct is same =
      let first : y ≡ x = cc in
      rw (ap (λ (z : X). bytes_eq text (f z)) first ∙ same) refl
  only_place e by text (y ∷ ys) (suc i) x distinct is same = elim (cases_Bool (bytes_eq text (f y))) [
    | inl twice ↦
        let this : text ≡ f x = (bytes_eq-Decides text (f x)).0 same in
        let that : text ≡ f y = (bytes_eq-Decides text (f y)).0 twice in
        let equal : e y x ≡ true = by y x ∙ (bytes_eq-Decides (f y) (f x)).1 (sym that ∙ this) in
        absurd (true≢false (sym equal ∙ true_there (λ z. e y z ≡ false) ys i x (IsDistinct-head e y ys distinct) is))
    | inr other ↦
        let next : suc i ≡ 1 + i = omega arith in
        rw other (next ∙ ap (λ (n : ℕ). 1 + n) (only_place e by text ys i x (IsDistinct-tail e y ys distinct) is same))
  ]

  pub there_number : (e : X → X → Bool) → ((x y : X) → e x y ≡ bytes_eq (f x) (f y)) → (text : List ℕ) (xs : List X) (i : ℕ) (x : X) → IsDistinct e xs → slice_get xs i ≡ Some x → bytes_eq text (f x) ≡ true
      → i ≡ symbol_of (map f xs) text
  there_number e by text xs i x distinct is same = only_place e by text xs i x distinct is same ∙ place_of_texts (bytes_eq text) xs
