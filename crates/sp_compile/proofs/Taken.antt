-- Names among the names of items, and their places.
use Rattle.std.proofs.Common.{◌≡◌, ℕ, ◌<◌, ◌+◌, Some, Bool, true, false, cond, ◌||◌, List, [], ◌∷◌, length, map, refl, ap, sym, ◌∙◌, arith}
use Rattle.std.specs.Prelude.{nat_le, Option, is_some}
use Rattle.std.specs.List.{list_any, position, position_from}
use Rattle.std.specs.Str.{bytes_eq}
use Rattle.std.proofs.lemmas.Bool.Decides.{nat_tests, same_from_decides}
use Rattle.std.proofs.lemmas.Slice.Eq.{bytes_eq-Decides}
use Rattle.std.proofs.lemmas.List.{length-map}
use Rattle.std.proofs.lemmas.Iterator.Adapters.{position_from-zero}
use Rattle.sp_compile.specs.Checks.{is_among}

-- a test of what items have, by their list
pub any_by_map : {X Y : Type 0} (f : X → Y) (p : Y → Bool) (xs : List X) → list_any (λ x. p (f x)) xs ≡ list_any p (map f xs)
any_by_map f p [] = refl
any_by_map f p (x ∷ xs) = ap (λ (b : Bool). p (f x) || b) (any_by_map f p xs)

-- two tests that agree on each item
pub any_alike : {X : Type 0} (p q : X → Bool) → ((x : X) → p x ≡ q x) → (xs : List X) → list_any p xs ≡ list_any q xs
any_alike p q same [] = refl
any_alike p q same (x ∷ xs) = ap (λ (b : Bool). b || list_any p xs) (same x) ∙ ap (λ (b : Bool). q x || b) (any_alike p q same xs)

-- whether texts are equal doesn't depend on which is first
pub bytes_eq_turned : (xs ys : List ℕ) → bytes_eq xs ys ≡ bytes_eq ys xs
bytes_eq_turned xs ys =
    let there = bytes_eq-Decides xs ys in
    let back = bytes_eq-Decides ys xs in
    same_from_decides (bytes_eq xs ys) (bytes_eq ys xs) there (λ e. sym (back.0 e), λ e. back.1 (sym e))

-- a place, or another one
either_place : (b : Bool) (i : ℕ) (other : Option ℕ) → is_some (cond b (Some i) other) ≡ (b || is_some other)
either_place true i other = refl
either_place false i other = refl

-- there is a place from some number on where an item passes the test
found_from : {X : Type 0} (p : X → Bool) (xs : List X) (i : ℕ) → is_some (position_from p i xs) ≡ list_any p xs
found_from p [] i = refl
found_from p (x ∷ xs) i = either_place (p x) i (position_from p (i + 1) xs) ∙ ap (λ (b : Bool). p x || b) (found_from p xs (i + 1))

-- there is a place where an item passes the test
found : {X : Type 0} (p : X → Bool) (xs : List X) → is_some (position p xs) ≡ list_any p xs
found p xs = ap is_some (position_from-zero p xs) ∙ found_from p xs 0

module _ {X : Type 0} (name : X → List ℕ) (xs : List X) where
  -- whether a text is among the names of items
  pub among_names : (text : List ℕ) → list_any (λ x. bytes_eq text (name x)) xs ≡ is_among (map name xs) text
  among_names text = any_by_map name (bytes_eq text) xs

  -- the same, with the items' names first
  pub among_names_first : (text : List ℕ) → list_any (λ x. bytes_eq (name x) text) xs ≡ is_among (map name xs) text
  among_names_first text = any_alike (λ x. bytes_eq (name x) text) (λ x. bytes_eq text (name x)) (λ x. bytes_eq_turned (name x) text) xs ∙ among_names text

  -- whether there is a place of a text, by the names of items
  pub place_among : (text : List ℕ) → is_some (position (λ x. bytes_eq (name x) text) xs) ≡ is_among (map name xs) text
  place_among text = found (λ x. bytes_eq (name x) text) xs ∙ among_names_first text

  -- fewer items than a limit have fewer names
  pub few_names : (most : ℕ) → length xs < most → nat_le most (length (map name xs)) ≡ false
  few_names most few = rw length-map (grind (arith, nat_tests))
