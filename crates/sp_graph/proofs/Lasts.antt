-- The last thing that the items of a list give.
use Rattle.std.proofs.Common.{◌≡◌, ℕ, ◌+◌, ◌<◌, List, [], ◌∷◌, ◌++◌, length, get_or, take, drop, Option, Some, None, refl, sym, ◌∙◌, ap, take-append-drop}
use Rattle.std.specs.List.{filter_map, last_or}
use Rattle.std.proofs.lemmas.List.{drop_more}
use Rattle.std.proofs.lemmas.List.Elements.{filter_map-append}

-- what is put behind a list is its last item
pub last_put : {X : Type 0} (o : Option X) (xs : List X) (x : X) → last_or o (xs ++ x ∷ []) ≡ Some x
last_put o [] x = refl
last_put o (y ∷ xs) x = last_put (Some y) xs x

module _ {X Y : Type 0} (f : X → Option Y) (xs : List X) (i : ℕ) (d : X) (inside : i < length xs) (behind : filter_map f (drop (i + 1) xs) ≡ []) where
  -- an item behind which none gives anything gives the last thing
  pub gives_last : (y : Y) → f (get_or xs i d) ≡ Some y → last_or None (filter_map f xs) ≡ Some y
  gives_last y gives =
      let split : xs ≡ take i xs ++ (get_or xs i d ∷ drop (i + 1) xs) = sym (take-append-drop i xs) ∙ ap (λ l. take i xs ++ l) (drop_more xs i d inside) in
      ap (λ l. last_or None (filter_map f l)) split
      ∙ ap (last_or None) (filter_map-append f (take i xs) (get_or xs i d ∷ drop (i + 1) xs))
      ∙ rw (gives, behind) (last_put None (filter_map f (take i xs)) y)

  -- where it gives nothing either, none from it on does
  pub gives_nothing : f (get_or xs i d) ≡ None → filter_map f (drop i xs) ≡ []
  gives_nothing fails = ap (filter_map f) (drop_more xs i d inside) ∙ rw (fails, behind) refl
