-- What a run may take next, and the name under which it takes an event.
use Rattle.std.proofs.Common.{◌≡◌, ℕ, Bool, true, false, cond, List, [], ◌∷◌, Option, Some, None, refl, ap}
use Rattle.std.specs.Prelude.{IfSome, option_map, if◌then◌else◌}
use Rattle.std.specs.List.{All, find, last_or, list_any}
use Rattle.std.proofs.lemmas.List.Elements.{All-head, All-tail}
use Rattle.sp_plan.specs.declared.plan.Element.{Element}
use Rattle.sp_plan.specs.declared.plan.Plan.{Plan}
use Rattle.sp_plan.specs.Runs.{Pair, again, is_plus}
use Rattle.sp_match.specs.inside.Taking.{again_name, last_again, once_more}

-- the last name once more
pub once_more_is : (passes : ℕ → Bool) (q : Plan) (r : List Pair) → once_more passes (last_again q r) ≡ find passes (again q.elements (last_or None r))
once_more_is passes q r = one (last_or None r)
  where
    two : (n : ℕ) (b : Bool) → once_more passes (if b then Some n else None) ≡ find passes (if b then n ∷ [] else [])
    two n true = refl
    two n false = refl

    one : (o : Option Pair) → once_more passes (again_name q.elements o) ≡ find passes (again q.elements o)
    one None = refl
    one (Some pair) = two pair.name (list_any (is_plus pair.name) q.elements)

-- the name of a pair, where it may be bound more than once
pub again_some : (elements : List Element) (o : Option Pair) (n : ℕ) → option_map (λ x. x.name) o ≡ Some n → again_name elements o ≡ (if list_any (is_plus n) elements then Some n else None)
again_some elements None n e = absurd (cc e)
again_some elements (Some pair) n e = let same : pair.name ≡ n = cc in ap (λ (m : ℕ). if list_any (is_plus m) elements then Some m else None) same

pub again_nothing : (elements : List Element) (o : Option Pair) → option_map (λ x. x.name) o ≡ None → again_name elements o ≡ None
again_nothing elements None e = refl
again_nothing elements (Some pair) e = absurd (cc e)

-- what is found is one of the list
pub found_keeps : {X : Type 0} (P : X → Type 0) (p : X → Bool) (xs : List X) → All P xs → IfSome (find p xs) P
found_keeps P p [] all = tt
found_keeps {X} P p (x ∷ xs) all = one (p x) (found_keeps P p xs (All-tail P x xs all))
  where
    one : (b : Bool) → IfSome (find p xs) P → IfSome (cond b (Some x) (find p xs)) P
    one true rest = All-head P x xs all
    one false rest = rest
