-- The name under which an event begins a run is one of the first element.
use Rattle.std.proofs.Common.{◌≡◌, ℕ, zero, suc, ◌<◌, false, not, List, [], ◌∷◌, ◌++◌, length, get_or, Some, None, refl, sym, ap, ◌∙◌, append-nil, arith}
use Rattle.std.specs.Prelude.{if◌then◌else◌}
use Rattle.std.specs.List.{All, find, filter, list_all, range_with_len}
use Rattle.std.proofs.lemmas.List.Elements.{All-head}
use Rattle.sp_plan.specs.declared.event.Event.{Event}
use Rattle.sp_plan.specs.declared.plan.Element.{Element}
use Rattle.sp_plan.specs.declared.plan.Element.TheVariants.{One, Plus, Set, Never}
use Rattle.sp_plan.specs.declared.plan.Plan.{Plan}
use Rattle.sp_plan.specs.Compiled.{IsFirst, IsSetOfMany}
use Rattle.sp_plan.specs.Runs.{binds, is_bound, is_filled, name_holds, takes, unbound}

none_unfilled : (n first : ℕ) → 0 < n → list_all (is_bound []) (range_with_len first n) ≡ false
none_unfilled zero first some = absurd (omega (arith, some))
none_unfilled (suc n) first some = refl

-- an element that isn't negated is not filled where nothing is bound
unfilled : (element : Element) (elements : List Element) → IsFirst (element ∷ elements) → IsSetOfMany element → is_filled [] element ≡ false
unfilled (One name) elements first_is many = refl
unfilled (Plus name) elements first_is many = refl
unfilled (Never name) elements first_is many = absurd first_is
unfilled (Set first count) elements first_is many = none_unfilled count first (omega (arith, many))

all_lacked : (names : List ℕ) → filter (λ name. not (is_bound [] name)) names ≡ names
all_lacked [] = refl
all_lacked (name ∷ names) = ap (λ (l : List ℕ). name ∷ l) (all_lacked names)

-- the names that are tried
pub first_names : (element : Element) (elements : List Element) → IsFirst (element ∷ elements) → IsSetOfMany element → unbound [] (find (λ element. not (is_filled [] element)) (element ∷ elements)) ++ [] ≡ binds element
first_names element elements first_is many =
    append-nil (unbound [] (find (λ element. not (is_filled [] element)) (element ∷ elements)))
    ∙ (λ i. unbound [] (if not (unfilled element elements first_is many i) then Some element else find (λ element. not (is_filled [] element)) elements)) ∙ all_lacked (binds element)

-- so for the plan's elements
pub begins_with : (q : Plan) (e : Event) (elements : List Element) (d : Element) → q.elements ≡ elements → 0 < length elements → IsFirst elements → All IsSetOfMany elements → find (name_holds q [] e) (binds (get_or elements 0 d)) ≡ takes q [] e
begins_with q e [] d is some first_is sets = absurd (omega (arith, some))
begins_with q e (element ∷ elements) d is some first_is sets =
    sym (ap (find (name_holds q [] e)) (ap (λ (l : List Element). unbound [] (find (λ element. not (is_filled [] element)) l) ++ []) is ∙ first_names element elements first_is (All-head IsSetOfMany element elements sets)))

pub begins_none : (q : Plan) (e : Event) → length q.elements ≡ 0 → None ≡ takes q [] e
begins_none q e none = one q.elements refl none
  where
    one : (elements : List Element) → q.elements ≡ elements → length elements ≡ 0 → None ≡ takes q [] e
    one [] is none = sym (ap (λ (l : List Element). find (name_holds q [] e) (unbound [] (find (λ element. not (is_filled [] element)) l) ++ [])) is)
    one (element ∷ elements) is none = absurd (omega (arith, none))
