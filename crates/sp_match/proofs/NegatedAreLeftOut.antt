-- The names of a plan but for those that are negated are those that bind events.
use Rattle.std.proofs.Common.{◌≡◌, ◌≢◌, ℕ, ◌+◌, ◌-◌, ◌<◌, ◌≤◌, Bool, true, false, cond, not, ◌||◌, ◌==◌, List, [], ◌∷◌, ◌++◌, map, length, refl, sym, ap, ◌∙◌, arith}
use Rattle.std.specs.Prelude.{is_some}
use Rattle.std.specs.List.{filter, flat_map, list_any, range_with_len}
use Rattle.std.proofs.lemmas.Bool.Decides.{nat_tests}
use Rattle.std.proofs.lemmas.List.Elements.{filter-append}
use Rattle.sp_base.specs.Numbers.{NumberList}
use Rattle.sp_plan.specs.declared.plan.Element.{Element}
use Rattle.sp_plan.specs.declared.plan.Element.TheVariants.{One, Plus, Set, Never}
use Rattle.sp_plan.specs.declared.plan.Plan.{Plan}
use Rattle.sp_plan.specs.Compiled.{IsCompiled, numbers_of}
use Rattle.sp_plan.specs.Runs.{Run, binds, bindings, bound_names, numbers_under}
use Rattle.sp_match.specs.public.Seen.{seen_name}
use Rattle.sp_match.specs.inside.Taking.{is_never, negated_count, negated_name}
use Rattle.sp_match.proofs.GuardsAreNumbered.{row_behind, row_first}

-- whether a name is not negated among these elements
abbrev pub stays : List Element → ℕ → Bool
stays elements name = not (list_any (is_never name) elements)

-- names in front of these elements are none of theirs
low : (elements : List Element) (first count name : ℕ) → numbers_of elements ≡ range_with_len first count → name < first → list_any (is_never name) elements ≡ false
low [] first count name is below = refl
low (One a ∷ elements) first count name is below = low elements (first + 1) (count - 1) name (row_behind (a ∷ []) (numbers_of elements) first count is) (omega (arith, below))
low (Plus a ∷ elements) first count name is below = low elements (first + 1) (count - 1) name (row_behind (a ∷ []) (numbers_of elements) first count is) (omega (arith, below))
low (Set a n ∷ elements) first count name is below =
    let width = length (range_with_len a n) in
    low elements (first + width) (count - width) name (row_behind (range_with_len a n) (numbers_of elements) first count is) (omega (arith, below))
low (Never a ∷ elements) first count name is below =
    let here : a ≡ first = row_first a (numbers_of elements) first count is in
    let other : (a == name) ≡ false = grind (arith, nat_tests) in
    λ i. other i || low elements (first + 1) (count - 1) name (row_behind (a ∷ []) (numbers_of elements) first count is) (omega (arith, below)) i

-- names of a row, below a bound below which all pass
all_pass : (p : ℕ → Bool) (xs ys : List ℕ) (first count bound : ℕ) → xs ++ ys ≡ range_with_len first count → first + length xs ≤ bound → ((name : ℕ) → name < bound → p name ≡ true) → filter p xs ≡ xs
all_pass p [] ys first count bound is within passes = refl
all_pass p (x ∷ xs) ys first count bound is within passes =
    let here : x ≡ first = row_first x (xs ++ ys) first count is in
    let own : p x ≡ true = passes x (omega (arith, here, within)) in
    (λ i. cond (own i) (x ∷ filter p xs) (filter p xs))
    ∙ ap (λ (l : List ℕ). x ∷ l) (all_pass p xs ys (first + 1) (count - 1) bound (row_behind (x ∷ []) (xs ++ ys) first count is) (omega (arith, within)) passes)

-- two tests that agree but on a number in front of a row
same_passing : (p t : ℕ → Bool) (name : ℕ) (ys : List ℕ) (first count : ℕ) → ys ≡ range_with_len first count → name < first → ((n : ℕ) → name ≢ n → p n ≡ t n) → filter p ys ≡ filter t ys
same_passing p t name [] first count is below agree = refl
same_passing p t name (y ∷ ys) first count is below agree =
    let here : y ≡ first = row_first y ys first count is in
    let own : p y ≡ t y = agree y (omega (arith, here, below)) in
    let rest : filter p ys ≡ filter t ys = same_passing p t name ys (first + 1) (count - 1) (row_behind (y ∷ []) ys first count is) (omega (arith, below)) agree in
    λ i. cond (own i) (y ∷ rest i) (rest i)

-- the names of an element that isn't negated stay
module _ (elements : List Element) (xs : List ℕ) (first count : ℕ) (is : xs ++ numbers_of elements ≡ range_with_len first count) where
  rest_is : numbers_of elements ≡ range_with_len (first + length xs) (count - length xs)
  rest_is = row_behind xs (numbers_of elements) first count is

  names_stay : filter (stays elements) xs ≡ xs
  names_stay = all_pass (stays elements) xs (numbers_of elements) first count (first + length xs) is (omega arith) (λ name below. ap not (low elements (first + length xs) (count - length xs) name rest_is below))

  both_stay : filter (stays elements) (numbers_of elements) ≡ flat_map binds elements → filter (stays elements) (xs ++ numbers_of elements) ≡ xs ++ flat_map binds elements
  both_stay rest = filter-append (stays elements) xs (numbers_of elements) ∙ λ i. names_stay i ++ rest i

left_out : (elements : List Element) (first count : ℕ) → numbers_of elements ≡ range_with_len first count → filter (stays elements) (numbers_of elements) ≡ flat_map binds elements
left_out [] first count is = refl
left_out (One a ∷ elements) first count is = both_stay elements (a ∷ []) first count is (left_out elements (first + 1) (count - 1) (row_behind (a ∷ []) (numbers_of elements) first count is))
left_out (Plus a ∷ elements) first count is = both_stay elements (a ∷ []) first count is (left_out elements (first + 1) (count - 1) (row_behind (a ∷ []) (numbers_of elements) first count is))
left_out (Set a n ∷ elements) first count is =
    let width = length (range_with_len a n) in
    both_stay elements (range_with_len a n) first count is (left_out elements (first + width) (count - width) (row_behind (range_with_len a n) (numbers_of elements) first count is))
left_out (Never a ∷ elements) first count is =
    let here : a ≡ first = row_first a (numbers_of elements) first count is in
    let rest = row_behind (a ∷ []) (numbers_of elements) first count is in
    let own : (a == a) ≡ true = grind (arith, nat_tests) in
    (λ i. cond (not (own i || list_any (is_never a) elements)) (a ∷ filter (stays (Never a ∷ elements)) (numbers_of elements)) (filter (stays (Never a ∷ elements)) (numbers_of elements)))
    ∙ same_passing (stays (Never a ∷ elements)) (stays elements) a (numbers_of elements) (first + 1) (count - 1) rest (omega (arith, here))
    (λ n apart. let other : (a == n) ≡ false = grind (arith, nat_tests) in λ i. not (other i || list_any (is_never n) elements))
    ∙ left_out elements (first + 1) (count - 1) rest

-- the names of the plan
names_left : (q : Plan) → IsCompiled q → filter (stays q.elements) (range_with_len 0 (length q.names)) ≡ bound_names q
names_left q compiled = ap (filter (stays q.elements)) (sym compiled.elements) ∙ left_out q.elements 0 (length q.names) compiled.elements

-- where none is negated all bind events
none_negated : (elements : List Element) → length (filter (λ element. is_some (negated_name element)) elements) ≡ 0 → flat_map binds elements ≡ numbers_of elements
none_negated [] none = refl
none_negated (One a ∷ elements) none = ap (λ (l : List ℕ). a ∷ l) (none_negated elements none)
none_negated (Plus a ∷ elements) none = ap (λ (l : List ℕ). a ∷ l) (none_negated elements none)
none_negated (Set a n ∷ elements) none = ap (λ (l : List ℕ). range_with_len a n ++ l) (none_negated elements none)
none_negated (Never a ∷ elements) none = absurd (omega (arith, none))

pub all_left : (q : Plan) → IsCompiled q → negated_count q.elements ≡ 0 → range_with_len 0 (length q.names) ≡ bound_names q
all_left q compiled none = sym compiled.elements ∙ sym (none_negated q.elements none)

-- lists with their names, of which those of negated names are left out
seen_left : (elements : List Element) (lists : List (ℕ × NumberList)) → map seen_name (filter (λ list. stays elements list.0) lists) ≡ filter (λ (pair : ℕ × List ℕ). stays elements pair.0) (map seen_name lists)
seen_left elements [] = refl
seen_left elements (list ∷ lists) = one (stays elements list.0) (seen_left elements lists)
  where
    one : (b : Bool) → map seen_name (filter (λ list. stays elements list.0) lists) ≡ filter (λ (pair : ℕ × List ℕ). stays elements pair.0) (map seen_name lists)
        → map seen_name (cond b (list ∷ filter (λ list. stays elements list.0) lists) (filter (λ list. stays elements list.0) lists))
        ≡ cond b (seen_name list ∷ filter (λ (pair : ℕ × List ℕ). stays elements pair.0) (map seen_name lists)) (filter (λ (pair : ℕ × List ℕ). stays elements pair.0) (map seen_name lists))
    one true rest = ap (λ (l : List (ℕ × List ℕ)). seen_name list ∷ l) rest
    one false rest = rest

numbers_left : (elements : List Element) (r : Run) (names : List ℕ)
    → filter (λ (pair : ℕ × List ℕ). stays elements pair.0) (map (λ name. (name, numbers_under r name)) names) ≡ map (λ name. (name, numbers_under r name)) (filter (stays elements) names)
numbers_left elements r [] = refl
numbers_left elements r (name ∷ names) = one (stays elements name) (numbers_left elements r names)
  where
    All : List (ℕ × List ℕ)
    All = filter (λ (pair : ℕ × List ℕ). stays elements pair.0) (map (λ name. (name, numbers_under r name)) names)

    one : (b : Bool) → All ≡ map (λ name. (name, numbers_under r name)) (filter (stays elements) names)
        → cond b ((name, numbers_under r name) ∷ All) All ≡ map (λ name. (name, numbers_under r name)) (cond b (name ∷ filter (stays elements) names) (filter (stays elements) names))
    one true rest = ap (λ (l : List (ℕ × List ℕ)). (name, numbers_under r name) ∷ l) rest
    one false rest = rest

-- the bindings of a run
pub bindings_left : (q : Plan) (r : Run) (lists : List (ℕ × NumberList)) → IsCompiled q → map seen_name lists ≡ map (λ name. (name, numbers_under r name)) (range_with_len 0 (length q.names))
    → map seen_name (filter (λ list. stays q.elements list.0) lists) ≡ bindings q r
bindings_left q r lists compiled is =
    seen_left q.elements lists ∙ ap (filter (λ (pair : ℕ × List ℕ). stays q.elements pair.0)) is
    ∙ numbers_left q.elements r (range_with_len 0 (length q.names)) ∙ ap (map (λ name. (name, numbers_under r name))) (names_left q compiled)
