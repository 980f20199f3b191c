-- Lists walked from their start: what is known of the items so far, at one more item, at the one that is looked for, and at the end.
use Rattle.std.proofs.Common.{◌≡◌, ℕ, zero, suc, ◌+◌, Bool, true, false, List, [], ◌∷◌, ◌++◌, take, drop, Some, None, refl, sym, ◌∙◌, ap, take-append-drop}
use Rattle.std.specs.Prelude.{Option}
use Rattle.std.specs.List.{slice_get, find, filter_map}
use Rattle.std.proofs.lemmas.List.{take_more, drop_more}
use Rattle.std.proofs.lemmas.List.Elements.{filter_map-append}
use Rattle.std.proofs.lemmas.List.Folds.{find-append}
use Rattle.std.proofs.lemmas.Option.{slice_get_within, get_or_from_slice_get}

module _ {X : Type 0} where
  -- the items so far and one more
  pub next_taken : (xs : List X) (i : ℕ) (x : X) → slice_get xs i ≡ Some x → take (i + 1) xs ≡ take i xs ++ x ∷ []
  next_taken xs i x is =
      take_more xs i x (slice_get_within xs i x is) ∙ ap (λ (y : X). take i xs ++ y ∷ []) (get_or_from_slice_get xs i x x is)

  -- the items before one, it, and those behind it
  pub around : (xs : List X) (i : ℕ) (x : X) → slice_get xs i ≡ Some x → xs ≡ take i xs ++ (x ∷ drop (i + 1) xs)
  around xs i x is =
      sym (take-append-drop i xs)
      ∙ ap (λ (l : List X). take i xs ++ l) (drop_more xs i x (slice_get_within xs i x is) ∙ ap (λ (y : X). y ∷ drop (i + 1) xs) (get_or_from_slice_get xs i x x is))

  -- where there is no item, the items so far are all
  pub taken_all : (xs : List X) (i : ℕ) → slice_get xs i ≡ None → take i xs ≡ xs
  taken_all [] zero is = refl
  taken_all [] (suc i) is = refl
  taken_all (x ∷ xs) zero is = absurd (cc is)
  taken_all (x ∷ xs) (suc i) is = ap (λ (l : List X). x ∷ l) (taken_all xs i is)

  -- an item more doesn't pass
  pub find_more : (p : X → Bool) (xs : List X) (i : ℕ) (x : X) → find p (take i xs) ≡ None → slice_get xs i ≡ Some x → p x ≡ false → find p (take (i + 1) xs) ≡ None
  find_more p xs i x none is fails =
      ap (find p) (next_taken xs i x is) ∙ find-append p (take i xs) (x ∷ []) ∙ rw (none, fails) refl

  -- the first item that passes
  pub find_here : (p : X → Bool) (xs : List X) (i : ℕ) (x : X) → find p (take i xs) ≡ None → slice_get xs i ≡ Some x → p x ≡ true → find p xs ≡ Some x
  find_here p xs i x none is passes =
      ap (find p) (around xs i x is) ∙ find-append p (take i xs) (x ∷ drop (i + 1) xs) ∙ rw (none, passes) refl

module _ {X Y : Type 0} (f : X → Option Y) where
  -- an item more gives nothing
  pub gives_none : (xs : List X) (i : ℕ) (x : X) → filter_map f (take i xs) ≡ [] → slice_get xs i ≡ Some x → f x ≡ None → filter_map f (take (i + 1) xs) ≡ []
  gives_none xs i x none is fails =
      ap (filter_map f) (next_taken xs i x is) ∙ filter_map-append f (take i xs) (x ∷ []) ∙ rw (none, fails) refl

  -- an item more gives something
  pub gives_more : (xs : List X) (i : ℕ) (x : X) (y : Y) → slice_get xs i ≡ Some x → f x ≡ Some y → filter_map f (take (i + 1) xs) ≡ filter_map f (take i xs) ++ y ∷ []
  gives_more xs i x y is gives =
      ap (filter_map f) (next_taken xs i x is) ∙ filter_map-append f (take i xs) (x ∷ []) ∙ rw gives refl

  -- the first item that gives something
  pub gives_first : (xs : List X) (i : ℕ) (x : X) (y : Y) → filter_map f (take i xs) ≡ [] → slice_get xs i ≡ Some x → f x ≡ Some y → slice_get (filter_map f xs) 0 ≡ Some y
  gives_first xs i x y none is gives =
      ap (λ (l : List X). slice_get (filter_map f l) 0) (around xs i x is)
      ∙ ap (λ (l : List Y). slice_get l 0) (filter_map-append f (take i xs) (x ∷ drop (i + 1) xs))
      ∙ rw (none, gives) refl
