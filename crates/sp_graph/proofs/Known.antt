-- Texts keep their numbers as others come.
use Rattle.std.proofs.Common.{◌≡◌, inl, inr, ◌⊎◌, ℕ, zero, suc, ◌+◌, Bool, true, false, List, [], ◌∷◌, ◌++◌, map, Option, Some, None, refl, sym, ◌∙◌, ap, subst}
use Rattle.std.specs.Prelude.{slice_get, slice_set, replicate, nat_lt, length, if◌then◌else◌, not, cond, ◌||◌}
use Rattle.std.specs.List.{list_any, position, position_or_len}
use Rattle.std.specs.Str.{bytes_eq}
use Rattle.std.proofs.lemmas.Bool.{cases_Bool}
use Rattle.std.proofs.lemmas.List.{map-append}
use Rattle.std.proofs.lemmas.List.Folds.{list_any-append}
use Rattle.std.proofs.lemmas.Slice.Eq.{bytes_eq-Decides}
use Rattle.sp_plan.specs.Texts.{symbol_of, with_text}
use Rattle.sp_graph.specs.Derived.{text_at}
use Rattle.sp_graph.specs.Tables.{IsKnown}

module _ {X : Type 0} (p : X → Bool) where
  -- the first that passes has its place, whatever is put behind
  place_before : (xs ys : List X) → list_any p xs ≡ true → position_or_len p (xs ++ ys) ≡ position_or_len p xs
  place_before [] ys passes = absurd (cc passes)
  place_before (x ∷ xs) ys passes = elim (cases_Bool (p x)) [
    | inl first ↦ rw first refl
    | inr other ↦ rw other (ap (λ (n : ℕ). 1 + n) (place_before xs ys (rw other at passes)))
  ]

  -- what passes behind others that don't has the next place
  place_behind : (xs : List X) (y : X) → list_any p xs ≡ false → p y ≡ true → position_or_len p (xs ++ y ∷ []) ≡ position_or_len p xs
  place_behind [] y none passes = rw passes refl
  place_behind (x ∷ xs) y none passes = elim (cases_Bool (p x)) [
    | inl first ↦ absurd (cc (rw first at none))
    | inr other ↦ rw other (ap (λ (n : ℕ). 1 + n) (place_behind xs y (rw other at none) passes))
  ]

-- a known text is known still, with its number, once another was seen
pub still_known : (texts : List (List ℕ)) (text other : List ℕ) (number : ℕ) → IsKnown texts text number → IsKnown (with_text texts other) text number
still_known texts text other number is = elim (cases_Bool (list_any (bytes_eq other) texts)) [
  | inl seen ↦ rw seen is
  | inr new ↦ rw new (record {
    known = list_any-append (bytes_eq text) texts (other ∷ []) ∙ rw (is.known) refl;
    number_is = is.number_is ∙ sym (place_before (bytes_eq text) texts (other ∷ []) is.known);
  })
]

-- a text that was seen is known
pub now_known : (texts : List (List ℕ)) (text : List ℕ) → IsKnown (with_text texts text) text (symbol_of texts text)
now_known texts text =
    let same : bytes_eq text text ≡ true = (bytes_eq-Decides text text).1 refl in
    elim (cases_Bool (list_any (bytes_eq text) texts)) [
      | inl seen ↦ rw seen (record { known = seen; number_is = refl })
      | inr new ↦ rw new (record {
        known = list_any-append (bytes_eq text) texts (text ∷ []) ∙ rw (new, same) refl;
        number_is = sym (place_behind (bytes_eq text) texts text new same);
      })
    ]

-- a known text that is seen again adds nothing
pub seen_again : (texts : List (List ℕ)) (text : List ℕ) (number : ℕ) → IsKnown texts text number → texts ≡ with_text texts text
seen_again texts text number is = let known = is.known in rw known refl

-- ---- texts that a list has something for

module _ {X : Type 0} (f : X → List ℕ) where
  -- a test finds the same place among the texts
  pub place_in_texts : (p : List ℕ → Bool) (xs : List X) → position_or_len (λ x. p (f x)) xs ≡ position_or_len p (map f xs)
  place_in_texts p [] = refl
  place_in_texts p (x ∷ xs) = ap (λ (n : ℕ). cond (not (p (f x))) (1 + n) 0) (place_in_texts p xs)

  -- and passes at one of them, or at none
  any_in_texts : (p : List ℕ → Bool) (xs : List X) → list_any (λ x. p (f x)) xs ≡ list_any p (map f xs)
  any_in_texts p [] = refl
  any_in_texts p (x ∷ xs) = ap (λ (b : Bool). p (f x) || b) (any_in_texts p xs)

  put_in : (b : Bool) (xs : List X) (x : X) → map f (if b then xs else xs ++ x ∷ []) ≡ (if b then map f xs else map f xs ++ f x ∷ [])
  put_in true xs x = refl
  put_in false xs x = map-append f xs (x ∷ [])

  -- the texts once one was put in that may be among them
  pub text_put_in : (xs : List X) (x : X) → map f (if list_any (λ y. bytes_eq (f x) (f y)) xs then xs else xs ++ x ∷ []) ≡ with_text (map f xs) (f x)
  text_put_in xs x =
      put_in (list_any (λ y. bytes_eq (f x) (f y)) xs) xs x
      ∙ ap (λ (b : Bool). if b then map f xs else map f xs ++ f x ∷ []) (any_in_texts (bytes_eq (f x)) xs)

  -- a text that was found is known by its place
  pub text_found : (text : List ℕ) (xs : List X) (i : ℕ) → Some i ≡ position (λ x. bytes_eq text (f x)) xs → list_any (λ x. bytes_eq text (f x)) xs ≡ true → IsKnown (map f xs) text i
  text_found text xs i found any = record {
    known = sym (any_in_texts (bytes_eq text) xs) ∙ any;
    number_is = by (nat_lt (position_or_len test xs) (length xs)) (position_or_len test xs) i found ∙ place_in_texts (bytes_eq text) xs;
  }
    where
      test : X → Bool
      test x = bytes_eq text (f x)

      by : (b : Bool) (n i : ℕ) → Some i ≡ cond b (Some n) None → i ≡ n
      by true n i same = cc
      by false n i same = absurd (cc same)

-- ---- the numbers of texts that were asked for

-- what stands in a list in which a number was put: that one, or what stood there
put_at : (numbers : List (Option ℕ)) (i k number n : ℕ) → slice_get (slice_set numbers i (Some number)) k ≡ Some (Some n)
    → ((k ≡ i) × (number ≡ n)) ⊎ (slice_get numbers k ≡ Some (Some n))
put_at [] i k number n is = inr is
put_at (x ∷ xs) zero zero number n is = inl (refl, cc)
put_at (x ∷ xs) zero (suc k) number n is = inr is
put_at (x ∷ xs) (suc i) zero number n is = inr is
put_at (x ∷ xs) (suc i) (suc k) number n is = elim (put_at xs i k number n is) [ inl h ↦ inl (ap suc h.0, h.1) | inr h ↦ inr h ]

module _ (texts before after : List (List ℕ)) (numbers : List (Option ℕ)) (symbol number : ℕ)
    (table : (k n : ℕ) → slice_get numbers k ≡ Some (Some n) → IsKnown before (text_at texts k) n) (grown : after ≡ with_text before (text_at texts symbol)) where
  -- the numbers hold once another text was seen
  pub numbers_hold : (k n : ℕ) → slice_get numbers k ≡ Some (Some n) → IsKnown after (text_at texts k) n
  numbers_hold k n is =
      subst (λ (l : List (List ℕ)). IsKnown l (text_at texts k) n) (sym grown) (still_known before (text_at texts k) (text_at texts symbol) n (table k n is))

  -- and with the number of that text
  pub number_put : number ≡ symbol_of before (text_at texts symbol) → (k n : ℕ) → slice_get (slice_set numbers symbol (Some number)) k ≡ Some (Some n)
      → IsKnown after (text_at texts k) n
  number_put number_is k n is = elim (put_at numbers symbol k number n is) [
    | inl here ↦
        let text = text_at texts symbol in
        let own : IsKnown (with_text before text) text n = subst (λ (m : ℕ). IsKnown (with_text before text) text m) (sym number_is ∙ here.1) (now_known before text) in
        let there : IsKnown (with_text before text) (text_at texts k) n = subst (λ (m : ℕ). IsKnown (with_text before text) (text_at texts m) n) (sym here.0) own in
        subst (λ (l : List (List ℕ)). IsKnown l (text_at texts k) n) (sym grown) there
    | inr before_it ↦ numbers_hold k n before_it
  ]

-- where none was asked for no number stands
pub none_asked : (count k n : ℕ) → slice_get (replicate count None) k ≡ Some (Some n) → ⊥
none_asked zero k n is = cc is
none_asked (suc count) zero n is = cc is
none_asked (suc count) (suc k) n is = none_asked count k n is
