-- Elements of the pattern from the left: their names, and the elements of the plan with their numbers.
use Rattle.std.proofs.Common.{◌≡◌, ℕ, zero, suc, ◌+◌, ◌<◌, List, [], ◌∷◌, ◌++◌, length, drop, map, get_or, refl, ap, sym, ◌∙◌, arith, append_assoc, add-one}
use Rattle.std.specs.List.{range_with_len}
use Rattle.std.proofs.lemmas.List.{drop_more, length-map, length-append}
use Rattle.sp_plan.specs.declared.plan.Element.{Element}
use Rattle.sp_plan.specs.Compiled.{numbers_of}
use Rattle.sp_plan.specs.Runs.{names_of}
use Rattle.sp_query.specs.declared.query.QueryElement.{QueryElement}
use Rattle.sp_query.specs.declared.query.QueryElement.TheVariants as e
use Rattle.sp_compile.specs.Scopes.{names_in, is_negated, placed_names, PatternName, in_element}
use Rattle.sp_compile.specs.Stands.{width, plan_element, plan_elements}

-- an element has as many names as it is wide
pub length_names : (element : QueryElement) → length (names_in element) ≡ width element
length_names (e.One name) = refl
length_names (e.Plus name span) = refl
length_names (e.Set names) = refl
length_names (e.Never name span) = refl

-- an element's names and those behind it
length_more : (element : QueryElement) (elements : List QueryElement) (at : ℕ) → length (placed_names at (element ∷ elements)) ≡ width element + length (placed_names (suc at) elements)
length_more element elements at =
    let names = names_in element in
    length-append (map (in_element at (is_negated element)) names) (placed_names (suc at) elements)
    ∙ ap (λ (n : ℕ). n + length (placed_names (suc at) elements)) (length-map names (in_element at (is_negated element)) ∙ length_names element)

-- as many names, wherever the first element stands
length_anywhere : (elements : List QueryElement) (at other : ℕ) → length (placed_names at elements) ≡ length (placed_names other elements)
length_anywhere [] at other = refl
length_anywhere (element ∷ elements) at other =
    length_more element elements at
    ∙ ap (λ (n : ℕ). width element + n) (length_anywhere elements (suc at) (suc other))
    ∙ sym (length_more element elements other)

module _ (elements : List QueryElement) (i : ℕ) (element : QueryElement) (inside : i < length elements) (is : element ≡ get_or elements i element) where
  -- what is left begins with this element
  opened : drop i elements ≡ element ∷ drop (i + 1) elements
  opened = drop_more elements i element inside ∙ ap (λ (y : QueryElement). y ∷ drop (i + 1) elements) (sym is)

  -- its names behind those so far
  pub more_names : (so_far now all : List PatternName) → so_far ++ placed_names i (drop i elements) ≡ all → now ≡ so_far ++ map (in_element i (is_negated element)) (names_in element) → now ++ placed_names (i + 1) (drop (i + 1) elements) ≡ all
  more_names so_far now all before grown =
      let names = map (in_element i (is_negated element)) (names_in element) in
      let rest = drop (i + 1) elements in
      ap (λ (l : List PatternName). l ++ placed_names (i + 1) rest) grown
      ∙ append_assoc so_far names (placed_names (i + 1) rest)
      ∙ ap (λ (n : ℕ). so_far ++ (names ++ placed_names n rest)) (add-one i)
      ∙ ap (λ (l : List QueryElement). so_far ++ placed_names i l) (sym opened)
      ∙ before

  -- it behind the elements so far
  pub more_planned : (first : ℕ) (so_far now all : List Element) → so_far ++ plan_elements first (drop i elements) ≡ all → now ≡ so_far ++ plan_element first element ∷ [] → now ++ plan_elements (first + width element) (drop (i + 1) elements) ≡ all
  more_planned first so_far now all before grown =
      let rest = plan_elements (first + width element) (drop (i + 1) elements) in
      ap (λ (l : List Element). l ++ rest) grown
      ∙ append_assoc so_far (plan_element first element ∷ []) rest
      ∙ ap (λ (l : List QueryElement). so_far ++ plan_elements first l) (sym opened)
      ∙ before

  -- how many names are left
  pub fewer_names : length (placed_names 0 (drop i elements)) ≡ width element + length (placed_names 0 (drop (i + 1) elements))
  fewer_names =
      let rest = drop (i + 1) elements in
      ap (λ (l : List QueryElement). length (placed_names 0 l)) opened
      ∙ length_more element rest 0
      ∙ ap (λ (n : ℕ). width element + n) (length_anywhere rest (suc 0) 0)

-- numbers in a row, and those behind them
range_joined : (from m n : ℕ) → range_with_len from (m + n) ≡ range_with_len from m ++ range_with_len (from + m) n
range_joined from zero n =
    let none : 0 + n ≡ n = omega arith in
    ap (range_with_len from) none ∙ ap (λ (k : ℕ). range_with_len k n) (omega arith)
range_joined from (suc m) n =
    let sum : suc m + n ≡ suc (m + n) = omega arith in
    ap (range_with_len from) sum
    ∙ ap (λ (l : List ℕ). from ∷ l) (range_joined (from + 1) m n ∙ ap (λ (k : ℕ). range_with_len (from + 1) m ++ range_with_len k n) (omega arith))

-- the numbers of an element's names
pub numbers_here : (first : ℕ) (element : QueryElement) → names_of (plan_element first element) ≡ range_with_len first (width element)
numbers_here first (e.One name) = refl
numbers_here first (e.Plus name span) = refl
numbers_here first (e.Set names) = refl
numbers_here first (e.Never name span) = refl

-- each name of the pattern is of one element, in their order
pub numbers_in_order : (elements : List QueryElement) (first : ℕ) → numbers_of (plan_elements first elements) ≡ range_with_len first (length (placed_names 0 elements))
numbers_in_order [] first = refl
numbers_in_order (element ∷ elements) first =
    let behind = placed_names (suc 0) elements in
    let same : length (placed_names 0 elements) ≡ length behind = length_anywhere elements 0 (suc 0) in
    ap (λ (l : List ℕ). l ++ numbers_of (plan_elements (first + width element) elements)) (numbers_here first element)
    ∙ ap (λ (l : List ℕ). range_with_len first (width element) ++ l) (numbers_in_order elements (first + width element) ∙ ap (range_with_len (first + width element)) same)
    ∙ sym (range_joined first (width element) (length behind))
    ∙ ap (range_with_len first) (sym (length_more element elements 0))
