-- The last element of a pattern, its sets, and the windows of time.
use Rattle.std.proofs.Common.{◌≡◌, ℕ, zero, suc, ◌+◌, ◌<◌, true, List, [], ◌∷◌, length, Option, Some, None, arith}
use Rattle.std.specs.List.{All, last_or, list_all}
use Rattle.std.proofs.lemmas.Bool.{and_parts}
use Rattle.std.proofs.lemmas.Bool.Decides.{nat_tests}
use Rattle.sp_lex.specs.declared.token.Word.{Word}
use Rattle.sp_lex.specs.declared.token.Word.TheVariants as w
use Rattle.sp_plan.specs.declared.plan.Element.{Element}
use Rattle.sp_plan.specs.Compiled.{IsSetOfMany, IsFirst, IsLast, IsTimed}
use Rattle.sp_query.specs.declared.query.Ident.{Ident}
use Rattle.sp_query.specs.declared.query.QueryColumn.{QueryColumn}
use Rattle.sp_query.specs.declared.query.QueryElement.{QueryElement}
use Rattle.sp_query.specs.declared.query.QueryElement.TheVariants as e
use Rattle.sp_compile.specs.Checks.{first_fault, last_fault, time_fault, time_column_fault, length_is_fine}
use Rattle.sp_compile.specs.Scopes.{placed_names, column_place}
use Rattle.sp_compile.specs.Sorts.{column_there}
use Rattle.sp_compile.specs.Stages.{is_wide}
use Rattle.sp_compile.specs.Stands.{width, plan_element, plan_elements, plan_length, time_place}

-- ---- the first element

-- elements without a fault in front
fine_first : (element : QueryElement) (elements : List QueryElement) (at : ℕ) → first_fault (element ∷ elements) ≡ None → IsFirst (plan_elements at (element ∷ elements))
fine_first (e.One name) elements at none = tt
fine_first (e.Plus name span) elements at none = tt
fine_first (e.Set names) elements at none = tt
fine_first (e.Never name span) elements at none = absurd (cc none)

pub is_first : (elements : List QueryElement) → 0 < length (placed_names 0 elements) → first_fault elements ≡ None → IsFirst (plan_elements 0 elements)
is_first [] some none = absurd (omega arith)
is_first (element ∷ elements) some none = fine_first element elements 0 none

-- ---- the last element

-- an element without a fault as the last one
fine_last : (element : QueryElement) (at : ℕ) → last_fault (Some element) ≡ None → IsLast (Some (plan_element at element))
fine_last (e.One name) at none = tt
fine_last (e.Plus name span) at none = absurd (cc none)
fine_last (e.Set names) at none = tt
fine_last (e.Never name span) at none = absurd (cc none)

-- the last of elements behind one
last_behind : (elements : List QueryElement) (at : ℕ) (element : QueryElement) (planned : Element) → (last_fault (Some element) ≡ None → IsLast (Some planned)) → last_fault (last_or (Some element) elements) ≡ None
    → IsLast (last_or (Some planned) (plan_elements at elements))
last_behind [] at element planned one none = one none
last_behind (next ∷ elements) at element planned one none = last_behind elements (at + width next) next (plan_element at next) (fine_last next at) none

pub is_last : (elements : List QueryElement) → 0 < length (placed_names 0 elements) → last_fault (last_or None elements) ≡ None → IsLast (last_or None (plan_elements 0 elements))
is_last [] some none = absurd (omega arith)
is_last (element ∷ elements) some none = last_behind elements (0 + width element) element (plan_element 0 element) (fine_last element 0) none

-- ---- sets

-- a set of two names or more is one in the plan
wide_set : (element : QueryElement) (at : ℕ) → is_wide element ≡ true → IsSetOfMany (plan_element at element)
wide_set (e.One name) at is = tt
wide_set (e.Plus name span) at is = tt
wide_set (e.Set names) at is = grind (arith, nat_tests)
wide_set (e.Never name span) at is = tt

pub wide_sets : (elements : List QueryElement) (at : ℕ) → list_all is_wide elements ≡ true → All IsSetOfMany (plan_elements at elements)
wide_sets [] at is i d inside = absurd (omega arith)
wide_sets (element ∷ elements) at is zero d inside = wide_set element at (and_parts (is_wide element) (list_all is_wide elements) is).0
wide_sets (element ∷ elements) at is (suc i) d inside = wide_sets elements (at + width element) (and_parts (is_wide element) (list_all is_wide elements) is).1 i d (omega arith)

-- ---- windows of time

-- where there is a time, its column is there
timed_here : (place : Option ℕ) (columns : List QueryColumn) (name : Ident) (number : ℕ) (unit : Word) → time_column_fault name (column_there columns place) ≡ None → IsTimed place (plan_length number unit)
timed_here None columns name number unit none = absurd (cc none)
timed_here (Some place) columns name number w.Time none = tt
timed_here (Some place) columns name number _ none = tt

-- without a time no length is in time
untimed : (number : ℕ) (unit : Word) → length_is_fine None number unit ≡ true → IsTimed None (plan_length number unit)
untimed number w.Time fine = absurd (cc fine)
untimed number _ fine = tt

pub is_timed : (columns : List QueryColumn) (time : Option Ident) (number : ℕ) (unit : Word) → time_fault columns time ≡ None → length_is_fine time number unit ≡ true → IsTimed (time_place columns time) (plan_length number unit)
is_timed columns None number unit none fine = untimed number unit fine
is_timed columns (Some name) number unit none fine = timed_here (column_place columns name.text) columns name number unit none
