-- The last item of a list.
use Rattle.std.proofs.Common.{◌≡◌, ◌-◌, ◌∙◌, List, [], ◌∷◌, length, Some, None, refl, ap, arith}
use Rattle.std.specs.Prelude.{Option}
use Rattle.std.specs.List.{last_or, slice_get}

-- the last of a list with a first item
last_of : {X : Type 0} (o : Option X) (x : X) (xs : List X) → last_or o (x ∷ xs) ≡ slice_get (x ∷ xs) (length xs)
last_of o x [] = refl
last_of o x (y ∷ ys) = last_of (Some x) y ys

-- the last item is at the last place
pub last_is : {X : Type 0} (xs : List X) → last_or None xs ≡ slice_get xs (length xs - 1)
last_is [] = refl
last_is (x ∷ xs) = last_of None x xs ∙ ap (slice_get (x ∷ xs)) (omega arith)
