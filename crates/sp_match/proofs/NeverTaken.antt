-- An event of which no name's predicate may hold is taken by no run, and held against none.
use Rattle.std.proofs.Common.{◌≡◌, ℕ, zero, suc, Bool, true, false, cond, ◌||◌, List, [], ◌∷◌, Some, None, refl, ◌∙◌}
use Rattle.std.specs.Prelude.{slice_get}
use Rattle.std.specs.List.{find, list_any}
use Rattle.sp_plan.specs.declared.event.Event.{Event}
use Rattle.sp_plan.specs.declared.plan.Name.{Name}
use Rattle.sp_plan.specs.declared.plan.Plan.{Plan}
use Rattle.sp_plan.specs.Known.{WhatMayNotHoldDoesNot}
use Rattle.sp_plan.specs.Runs.{Run, bound_events, fits_name, guarded, guards, name_holds, takes, wanted}
use Rattle.sp_match.specs.public.Known.{may_take}

find_none : {X : Type 0} (p : X → Bool) → ((x : X) → p x ≡ false) → (xs : List X) → find p xs ≡ None
find_none p never [] = refl
find_none p never (x ∷ xs) = (λ k. cond (never x k) (Some x) (find p xs)) ∙ find_none p never xs

any_none : {X : Type 0} (p : X → Bool) → ((x : X) → p x ≡ false) → (xs : List X) → list_any p xs ≡ false
any_none p never [] = refl
any_none p never (x ∷ xs) = λ k. never x k || any_none p never xs k

module _ (right : WhatMayNotHoldDoesNot) (e : Event) (r : Run) where
  no_name : (names : List Name) → list_any (may_take e) names ≡ false → (n : ℕ) → fits_name (slice_get names n) r e ≡ false
  no_name [] none n = refl
  no_name (name ∷ names) none zero = right name.pred e (bound_events r) (first (may_take e name) none)
    where
      first : (b : Bool) → (b || list_any (may_take e) names) ≡ false → b ≡ false
      first true is = is
      first false is = refl
  no_name (name ∷ names) none (suc n) = no_name names (rest (may_take e name) none) n
    where
      rest : (b : Bool) → (b || list_any (may_take e) names) ≡ false → list_any (may_take e) names ≡ false
      rest true is = absurd (cc is)
      rest false is = is

  pub never_taken : (q : Plan) → list_any (may_take e) q.names ≡ false → (takes q r e ≡ None) × (guarded q r e ≡ false)
  never_taken q none = (find_none (name_holds q r e) (no_name q.names none) (wanted q r), any_none (name_holds q r e) (no_name q.names none) (guards q r))
