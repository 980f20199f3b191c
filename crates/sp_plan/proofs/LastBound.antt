-- The last event that is bound to a name.
use Rattle.std.proofs.Common.{◌≡◌, ℕ, ◌+◌, ◌<◌, Bool, true, List, [], ◌∷◌, ◌++◌, length, get_or, take, drop, filter, Option, Some, None, refl, sym, ◌∙◌, ap, take-append-drop}
use Rattle.std.specs.List.{last_or}
use Rattle.std.proofs.lemmas.List.{drop_more}
use Rattle.std.proofs.lemmas.List.Elements.{filter-append}

pub last_or-push : {X : Type 0} (o : Option X) (xs : List X) (x : X) → last_or o (xs ++ x ∷ []) ≡ Some x
last_or-push o [] x = refl
last_or-push o (y ∷ xs) x = last_or-push (Some y) xs x

-- the last item that passes a test is the one behind which none passes
pub last_hit : {X : Type 0} (p : X → Bool) (xs : List X) (i : ℕ) (d : X) → i < length xs → p (get_or xs i d) ≡ true → filter p (drop (i + 1) xs) ≡ []
    → last_or None (filter p xs) ≡ Some (get_or xs i d)
last_hit p xs i d inside hit none =
    let split : xs ≡ take i xs ++ (get_or xs i d ∷ drop (i + 1) xs) = sym (take-append-drop i xs) ∙ ap (λ l. take i xs ++ l) (drop_more xs i d inside) in
    ap (λ l. last_or None (filter p l)) split
    ∙ ap (last_or None) (filter-append p (take i xs) (get_or xs i d ∷ drop (i + 1) xs))
    ∙ rw (hit, none) (last_or-push None (filter p (take i xs)) (get_or xs i d))
