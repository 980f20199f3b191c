-- The names that guard a run are numbered in a row.
use Rattle.std.proofs.Common.{◌≡◌, ℕ, zero, suc, ◌+◌, ◌-◌, ◌<◌, ◌≤◌, Bool, true, false, cond, List, [], ◌∷◌, ◌++◌, length, drop, get_or, Option, Some, None, refl, sym, ap, ◌∙◌, arith}
use Rattle.std.specs.Prelude.{IfSome, is_some, option_and_then, slice_get, slice_index_or}
use Rattle.std.specs.Option.{option_map}
use Rattle.std.specs.List.{All, last_or, list_any, range_with_len}
use Rattle.std.proofs.lemmas.List.{drop_more, length-append}
use Rattle.std.proofs.lemmas.List.Elements.{All-head, All-tail}
use Rattle.std.proofs.lemmas.List.FromFn.{length-range_with_len}
use Rattle.sp_base.specs.Numbers.{is_among}
use Rattle.sp_plan.specs.declared.plan.Element.{Element}
use Rattle.sp_plan.specs.declared.plan.Element.TheVariants.{One, Plus, Set, Never}
use Rattle.sp_plan.specs.declared.plan.Plan.{Plan}
use Rattle.sp_plan.specs.Compiled.{IsCompiled, IsSetOfMany, numbers_of}
use Rattle.sp_plan.specs.Runs.{Pair, Run, behind, binds, guards, guards_behind, is_filled, leading, names_of}
use Rattle.sp_match.specs.inside.Good.{IsNamed}
use Rattle.sp_match.specs.inside.Taking.{guard_range, negated_count, negated_name, range_of}

-- these numbers stand in a row
abbrev pub InARow : List ℕ → Type 0
InARow ns = (first : ℕ) × (count : ℕ) × (ns ≡ range_with_len first count)

-- behind some numbers of a row, and the first of them
pub row_behind : (xs ys : List ℕ) (first count : ℕ) → xs ++ ys ≡ range_with_len first count → ys ≡ range_with_len (first + length xs) (count - length xs)
row_behind [] ys first count is =
    let here : first ≡ first + 0 = omega arith in
    let all : count ≡ count - 0 = omega arith in
    is ∙ λ i. range_with_len (here i) (all i)
row_behind (x ∷ xs) ys first zero is = absurd (cc is)
row_behind (x ∷ xs) ys first (suc count) is =
    let rest : xs ++ ys ≡ range_with_len (first + 1) count = cc in
    let here : first + 1 + length xs ≡ first + suc (length xs) = omega arith in
    let all : count - length xs ≡ suc count - suc (length xs) = omega arith in
    row_behind xs ys (first + 1) count rest ∙ λ i. range_with_len (here i) (all i)

pub row_first : (x : ℕ) (xs : List ℕ) (first count : ℕ) → x ∷ xs ≡ range_with_len first count → x ≡ first
row_first x xs first zero is = absurd (cc is)
row_first x xs first (suc count) is = cc

leading_from : (elements : List Element) (first count : ℕ) → numbers_of elements ≡ range_with_len first count → leading elements ≡ range_with_len first (length (leading elements))
leading_from [] first count is = refl
leading_from (One a ∷ elements) first count is = refl
leading_from (Plus a ∷ elements) first count is = refl
leading_from (Set a n ∷ elements) first count is = refl
leading_from (Never a ∷ elements) first count is = λ i. row_first a (numbers_of elements) first count is i ∷ leading_from elements (first + 1) (count - 1) (row_behind (a ∷ []) (numbers_of elements) first count is) i

behind_in_a_row : (r : Run) (name : ℕ) (elements : List Element) → InARow (numbers_of elements) → InARow (numbers_of (behind r name elements))
behind_in_a_row r name [] row = row
behind_in_a_row r name (element ∷ elements) row = one (is_among (binds element) name) (is_filled r element) (behind_in_a_row r name elements rest)
  where
    rest : InARow (numbers_of elements)
    rest = (row.0 + length (names_of element), row.1 - length (names_of element), row_behind (names_of element) (numbers_of elements) row.0 row.1 row.2)

    one : (b c : Bool) → InARow (numbers_of (behind r name elements)) → InARow (numbers_of (cond b (cond c elements []) (behind r name elements)))
    one true true ih = rest
    one true false ih = (0, 0, refl)
    one false c ih = ih

from_first : (ns : List ℕ) (first : ℕ) → ns ≡ range_with_len first (length ns) → ns ≡ range_with_len (slice_index_or ns 0 0) (length ns)
from_first [] first is = refl
from_first (n ∷ ns) first is = let same : first ≡ n = cc in is ∙ ap (λ (m : ℕ). range_with_len m (length (n ∷ ns))) same

pub guards_numbered : (q : Plan) (r : Run) → IsCompiled q → guards q r ≡ range_with_len (guard_range q r).0 ((guard_range q r).1 - (guard_range q r).0)
guards_numbered q r compiled =
    let first = slice_index_or (guards q r) 0 0 in
    let size : length (guards q r) ≡ first + length (guards q r) - first = omega arith in
    of_last (last_or None r) ∙ ap (range_with_len first) size
  where
    of_last : (o : Option Pair) → guards_behind q.elements r o ≡ range_with_len (slice_index_or (guards_behind q.elements r o) 0 0) (length (guards_behind q.elements r o))
    of_last None = refl
    of_last (Some pair) =
        let row = behind_in_a_row r pair.name q.elements (0, length q.names, compiled.elements) in
        from_first (leading (behind r pair.name q.elements)) row.0 (leading_from (behind r pair.name q.elements) row.0 row.1 row.2)

-- they stand behind the element of the last pair's name
pub guards_named : (elements : List Element) (r : Run) (o : Option Pair) (name : ℕ) → option_map (λ (x : Pair). x.name) o ≡ Some name → leading (behind r name elements) ≡ guards_behind elements r o
guards_named elements r None name is = absurd (cc is)
guards_named elements r (Some pair) name is = let same : name ≡ pair.name = cc in ap (λ (n : ℕ). leading (behind r n elements)) same

-- ---- where no name is negated none guards a run

pub none_counted : (elements : List Element) → list_any (λ element. is_some (negated_name element)) elements ≡ false → negated_count elements ≡ 0
none_counted [] none = refl
none_counted (One a ∷ elements) none = none_counted elements none
none_counted (Plus a ∷ elements) none = none_counted elements none
none_counted (Set a n ∷ elements) none = none_counted elements none
none_counted (Never a ∷ elements) none = absurd (cc none)

none_leading : (elements : List Element) → negated_count elements ≡ 0 → leading elements ≡ []
none_leading [] none = refl
none_leading (One a ∷ elements) none = refl
none_leading (Plus a ∷ elements) none = refl
none_leading (Set a n ∷ elements) none = refl
none_leading (Never a ∷ elements) none = absurd (omega (arith, none))

-- of elements that stand behind one, where none of these is negated
none_further : (r : Run) (name : ℕ) (element : Element) (elements : List Element) → negated_count elements ≡ 0 → leading (behind r name elements) ≡ [] → leading (behind r name (element ∷ elements)) ≡ []
none_further r name element elements none rest = one (is_among (binds element) name) (is_filled r element)
  where
    one : (b c : Bool) → leading (cond b (cond c elements []) (behind r name elements)) ≡ []
    one true true = none_leading elements none
    one true false = refl
    one false c = rest

none_behind : (r : Run) (name : ℕ) (elements : List Element) → negated_count elements ≡ 0 → leading (behind r name elements) ≡ []
none_behind r name [] none = refl
none_behind r name (One a ∷ elements) none = none_further r name (One a) elements none (none_behind r name elements none)
none_behind r name (Plus a ∷ elements) none = none_further r name (Plus a) elements none (none_behind r name elements none)
none_behind r name (Set a n ∷ elements) none = none_further r name (Set a n) elements none (none_behind r name elements none)
none_behind r name (Never a ∷ elements) none = absurd (omega (arith, none))

pub none_guards : (q : Plan) (r : Run) → negated_count q.elements ≡ 0 → (0, 0) ≡ guard_range q r
none_guards q r none = ap range_of (sym (of_last (last_or None r)))
  where
    of_last : (o : Option Pair) → guards_behind q.elements r o ≡ []
    of_last None = refl
    of_last (Some pair) = none_behind r pair.name q.elements none

pub in_order : (q : Plan) (r : Run) → (guard_range q r).0 ≤ (guard_range q r).1
in_order q r = omega arith

-- ---- what stands negated in front

-- with a negated element in front one more than behind it, and else none
pub front_more : (element : Element) (rest : List Element) (b : Bool) → is_some (negated_name element) ≡ b → length (leading (element ∷ rest)) ≡ cond b (length (leading rest) + 1) 0
front_more element rest b is = one element ∙ ap (λ (c : Bool). cond c (length (leading rest) + 1) 0) is
  where
    one : (element : Element) → length (leading (element ∷ rest)) ≡ cond (is_some (negated_name element)) (length (leading rest) + 1) 0
    one (One a) = refl
    one (Plus a) = refl
    one (Set a n) = refl
    one (Never a) = omega arith

pub leading_few : (elements : List Element) → length (leading elements) ≤ length elements
leading_few [] = omega arith
leading_few (One a ∷ elements) = omega arith
leading_few (Plus a ∷ elements) = omega arith
leading_few (Set a n ∷ elements) = omega arith
leading_few (Never a ∷ elements) = let rest = leading_few elements in omega (arith, rest)

-- the first of them
abbrev pub first_name : List Element → Option ℕ
first_name elements = option_and_then negated_name (slice_get elements 0)

pub first_few : (elements : List Element) → All IsNamed elements → IfSome (first_name elements) (λ name. name < 32)
first_few [] named = tt
first_few (One a ∷ elements) named = tt
first_few (Plus a ∷ elements) named = tt
first_few (Set a n ∷ elements) named = tt
first_few (Never a ∷ elements) named = All-head IsNamed (Never a) elements named

pub led : (elements : List Element) (name : ℕ) → first_name elements ≡ Some name → (name, name + length (leading elements)) ≡ range_of (leading elements)
led [] name is = absurd (cc is)
led (One a ∷ elements) name is = absurd (cc is)
led (Plus a ∷ elements) name is = absurd (cc is)
led (Set a n ∷ elements) name is = absurd (cc is)
led (Never a ∷ elements) name is = let same : name ≡ a = cc in λ i. (same i, same i + length (leading (Never a ∷ elements)))

pub none_led : (elements : List Element) → first_name elements ≡ None → (0, 0) ≡ range_of (leading elements)
none_led [] is = refl
none_led (One a ∷ elements) is = refl
none_led (Plus a ∷ elements) is = refl
none_led (Set a n ∷ elements) is = refl
none_led (Never a ∷ elements) is = absurd (cc is)

-- what stands behind an element that has a name, and behind one that hasn't
pub behind_here : (r : Run) (name : ℕ) (elements : List Element) (i : ℕ) (d : Element) (b c : Bool) → i < length elements → is_among (binds (get_or elements i d)) name ≡ b → is_filled r (get_or elements i d) ≡ c
    → behind r name (drop i elements) ≡ cond b (cond c (drop (i + 1) elements) []) (behind r name (drop (i + 1) elements))
behind_here r name elements i d b c within has filled =
    ap (behind r name) (drop_more elements i d within) ∙ λ k. cond (has k) (cond (filled k) (drop (i + 1) elements) []) (behind r name (drop (i + 1) elements))

-- ---- a plan has at most as many elements as names

some_name : (element : Element) → IsSetOfMany element → 1 ≤ length (names_of element)
some_name (One a) many = omega arith
some_name (Plus a) many = omega arith
some_name (Set first count) many = omega (arith, many, length-range_with_len first count)
some_name (Never a) many = omega arith

fewer_elements : (elements : List Element) → All IsSetOfMany elements → length elements ≤ length (numbers_of elements)
fewer_elements [] all = omega arith
fewer_elements (element ∷ elements) all =
    let here = some_name element (All-head IsSetOfMany element elements all) in
    let rest = fewer_elements elements (All-tail IsSetOfMany element elements all) in
    omega (arith, here, rest, length-append (names_of element) (numbers_of elements))

pub few_elements : (q : Plan) → IsCompiled q → length q.elements ≤ 32
few_elements q compiled =
    let fewer = fewer_elements q.elements compiled.sets in
    let size : length (numbers_of q.elements) ≡ length q.names = ap length compiled.elements ∙ length-range_with_len 0 (length q.names) in
    let names = compiled.names in
    omega (arith, fewer, size, names)
