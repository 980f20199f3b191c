-- What counts for a run next, by its last name.
use Rattle.std.proofs.Common.{◌≡◌, ℕ, ◌+◌, ◌<◌, true, false, cond, List, [], ◌∷◌, length, drop, get_or, Option, Some, None, refl, ap, ◌∙◌}
use Rattle.std.specs.Prelude.{option_map, if◌then◌else◌}
use Rattle.std.specs.List.{list_any}
use Rattle.std.proofs.lemmas.List.{drop_more}
use Rattle.sp_base.specs.Numbers.{is_among}
use Rattle.sp_plan.specs.declared.plan.Element.{Element}
use Rattle.sp_plan.specs.Runs.{Pair, Run, again, behind, binds, guards_behind, is_filled, is_plus, leading}

-- the name of the last pair again
pub again_name : (elements : List Element) (o : Option Pair) (name : ℕ) → option_map (λ pair. pair.name) o ≡ Some name → again elements o ≡ (if list_any (is_plus name) elements then name ∷ [] else [])
again_name elements None name is = absurd (cc is)
again_name elements (Some pair) name is = let same : pair.name ≡ name = cc in ap (λ (n : ℕ). if list_any (is_plus n) elements then n ∷ [] else []) same

-- the names that guard a run stand behind the element of its last name
pub guards_name : (elements : List Element) (r : Run) (o : Option Pair) (name : ℕ) → option_map (λ pair. pair.name) o ≡ Some name → leading (behind r name elements) ≡ guards_behind elements r o
guards_name elements r None name is = absurd (cc is)
guards_name elements r (Some pair) name is = let same : name ≡ pair.name = cc in ap (λ (n : ℕ). leading (behind r n elements)) same

pub guards_none : (elements : List Element) (r : Run) (o : Option Pair) → option_map (λ pair. pair.name) o ≡ None → [] ≡ guards_behind elements r o
guards_none elements r None is = refl
guards_none elements r (Some pair) is = absurd (cc is)

-- the elements behind that of a name, from a place on
module _ (r : Run) (name : ℕ) (elements : List Element) (i : ℕ) (d : Element) (within : i < length elements) where
  at_place : behind r name (drop i elements) ≡ cond (is_among (binds (get_or elements i d)) name) (cond (is_filled r (get_or elements i d)) (drop (i + 1) elements) []) (behind r name (drop (i + 1) elements))
  at_place = ap (behind r name) (drop_more elements i d within)

  pub behind_more : is_among (binds (get_or elements i d)) name ≡ false → behind r name (drop i elements) ≡ behind r name (drop (i + 1) elements)
  behind_more other = at_place ∙ λ k. cond (other k) (cond (is_filled r (get_or elements i d)) (drop (i + 1) elements) []) (behind r name (drop (i + 1) elements))

  pub behind_filled : is_among (binds (get_or elements i d)) name ≡ true → is_filled r (get_or elements i d) ≡ true → behind r name (drop i elements) ≡ drop (i + 1) elements
  behind_filled own filled = at_place ∙ λ k. cond (own k) (cond (filled k) (drop (i + 1) elements) []) (behind r name (drop (i + 1) elements))

  pub behind_open : is_among (binds (get_or elements i d)) name ≡ true → is_filled r (get_or elements i d) ≡ false → behind r name (drop i elements) ≡ []
  behind_open own unfilled = at_place ∙ λ k. cond (own k) (cond (unfilled k) (drop (i + 1) elements) []) (behind r name (drop (i + 1) elements))
