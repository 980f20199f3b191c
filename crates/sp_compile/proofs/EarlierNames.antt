-- Names of elements before others: their count, and that the predicates of an element's names read no others.
use Rattle.std.proofs.Common.{◌≡◌, ℕ, zero, suc, ◌+◌, ◌<◌, ◌≤◌, Bool, true, false, cond, ◌==◌, ◌||◌, List, [], ◌∷◌, ◌++◌, length, map, take, drop, get_or, refl, ap, sym, ◌∙◌, subst, arith, append_assoc, add-one}
use Rattle.std.specs.Prelude.{count_by, nat_lt}
use Rattle.std.specs.List.{All, AllZip, flat_map, range_with_len}
use Rattle.std.proofs.lemmas.Bool.{or_right}
use Rattle.std.proofs.lemmas.Bool.Decides.{nat_tests}
use Rattle.std.proofs.lemmas.List.{length-map, length-append}
use Rattle.std.proofs.lemmas.List.Concat.{flat_map-cons}
use Rattle.std.proofs.lemmas.List.Elements.{All-nil, All-cons, All-append}
use Rattle.std.proofs.lemmas.List.FromFn.{length-range_with_len}
use Rattle.std.proofs.lemmas.List.Sums.{sum_by-cons}
use Rattle.sp_base.specs.Numbers.{is_among}
use Rattle.sp_plan.specs.declared.plan.Name.{Name}
use Rattle.sp_plan.specs.declared.plan.Plan.{Plan}
use Rattle.sp_plan.specs.Comparable.{IsComparable}
use Rattle.sp_plan.specs.Compiled.{readable, ReadEarlier}
use Rattle.sp_plan.specs.Runs.{names_of, binds}
use Rattle.sp_query.specs.declared.query.Ident.{Ident}
use Rattle.sp_query.specs.declared.query.QueryElement.{QueryElement}
use Rattle.sp_query.specs.declared.query.QueryElement.TheVariants as e
use Rattle.sp_compile.specs.Scopes.{AreOrdered, names_in, is_negated, placed_names, binding_from, PatternName, in_element}
use Rattle.sp_compile.specs.Stands.{width, plan_element, plan_elements}
use Rattle.sp_compile.proofs.Placed.{length_names, numbers_here}

-- names with the numbers of their elements
abbrev Placed : Type 0
Placed = List PatternName

-- how many names are of elements before this one
abbrev before : ℕ → Placed → ℕ
before here names = count_by (λ name. nat_lt name.element here) names

-- a name, and those behind it
one_more : (here : ℕ) (name : PatternName) (names : Placed) → before here (name ∷ names) ≡ cond (nat_lt name.element here) 1 0 + before here names
one_more here name names = sum_by-cons (λ (other : PatternName). cond (nat_lt other.element here) 1 0) name names

pub is_before : (n here : ℕ) → n < here → nat_lt n here ≡ true
is_before n here less = grind (arith, nat_tests)

is_not : (n here : ℕ) → here ≤ n → nat_lt n here ≡ false
is_not n here most = grind (arith, nat_tests)

-- ---- names come in the order of their elements

-- the names of an element in front of those of later ones
in_front : (names : List Ident) (at : ℕ) (negated : Bool) (rest : Placed) → AreOrdered rest → All (λ name. at ≤ name.element) rest
    → AreOrdered (map (in_element at negated) names ++ rest) × All (λ name. at ≤ name.element) (map (in_element at negated) names ++ rest)
in_front [] at negated rest ordered later = (ordered, later)
in_front (name ∷ names) at negated rest ordered later =
    let behind = in_front names at negated rest ordered later in
    let all = map (in_element at negated) names ++ rest in
    let here : at ≤ at = omega arith in
    ((behind.1, behind.0), All-cons (λ (other : PatternName). at ≤ other.element) (in_element at negated name) all here behind.1)

pub placed_ordered : (elements : List QueryElement) (at : ℕ) → AreOrdered (placed_names at elements) × All (λ name. at ≤ name.element) (placed_names at elements)
placed_ordered [] at = (tt, λ i d inside. absurd (omega arith))
placed_ordered (element ∷ elements) at =
    let behind = placed_ordered elements (suc at) in
    let rest = placed_names (suc at) elements in
    in_front (names_in element) at (is_negated element) rest behind.0 (λ i d inside. let later : suc at ≤ (get_or rest i d).element = behind.1 i d inside in omega arith)

-- a name of an element before this one is among the first that are
pub among_first : (here : ℕ) (names : Placed) (k : ℕ) (d : PatternName) → AreOrdered names → k < length names → (get_or names k d).element < here → k < before here names
among_first here [] k d ordered inside less = absurd (omega arith)
among_first here (name ∷ names) zero d ordered inside less =
    let first : nat_lt name.element here ≡ true = is_before name.element here less in
    let count : before here (name ∷ names) ≡ 1 + before here names = one_more here name names ∙ ap (λ (b : Bool). cond b 1 0 + before here names) first in
    omega (arith, count)
among_first here (name ∷ names) (suc k) d ordered inside less =
    let later : name.element ≤ (get_or names k d).element = ordered.0 k d (omega arith) in
    let first : nat_lt name.element here ≡ true = is_before name.element here (omega arith) in
    let behind : k < before here names = among_first here names k d ordered.1 (omega arith) less in
    let count : before here (name ∷ names) ≡ 1 + before here names = one_more here name names ∙ ap (λ (b : Bool). cond b 1 0 + before here names) first in
    omega (arith, count, behind)

-- ---- counts

none_before : (here : ℕ) (names : Placed) → All (λ name. here ≤ name.element) names → before here names ≡ 0
none_before here [] later = refl
none_before here (name ∷ names) later =
    let behind : before here names ≡ 0 = none_before here names (λ i d inside. later (suc i) d (omega arith)) in
    let count : before here (name ∷ names) ≡ 0 + before here names = one_more here name names ∙ ap (λ (b : Bool). cond b 1 0 + before here names) (is_not name.element here (later 0 name (omega arith))) in
    omega (arith, count, behind)

-- those in front are, and those behind are not
front_before : (here : ℕ) (front rest : Placed) → All (λ name. name.element < here) front → All (λ name. here ≤ name.element) rest → before here (front ++ rest) ≡ length front
front_before here [] rest earlier later = none_before here rest later
front_before here (name ∷ front) rest earlier later =
    let behind : before here (front ++ rest) ≡ length front = front_before here front rest (λ i d inside. earlier (suc i) d (omega arith)) later in
    let count : before here (name ∷ (front ++ rest)) ≡ 1 + before here (front ++ rest) =
    one_more here name (front ++ rest) ∙ ap (λ (b : Bool). cond b 1 0 + before here (front ++ rest)) (is_before name.element here (earlier 0 name (omega arith))) in
    omega (arith, count, behind)

-- ---- elements

-- what is said of names by their elements, of the names of one element and of those behind
zip_front : (Q : ℕ → Name → Type 0) (at : ℕ) (negated : Bool) (idents : List Ident) (rest : Placed) (names : List Name) → AllZip (λ name planned. Q name.element planned) (map (in_element at negated) idents ++ rest) names
    → All (Q at) (take (length idents) names) × AllZip (λ name planned. Q name.element planned) rest (drop (length idents) names)
zip_front Q at negated [] rest names zip = (All-nil (Q at), zip)
zip_front Q at negated (ident ∷ idents) rest [] zip = absurd zip
zip_front Q at negated (ident ∷ idents) rest (name ∷ names) zip =
    let behind = zip_front Q at negated idents rest names zip.1 in
    (All-cons (Q at) name (take (length idents) names) zip.0 behind.0, behind.1)

-- the names of an element are of elements before the next
all_here : (idents : List Ident) (at : ℕ) (negated : Bool) → All (λ (name : PatternName). name.element < suc at) (map (in_element at negated) idents)
all_here [] at negated i d inside = absurd (omega arith)
all_here (ident ∷ idents) at negated zero d inside = omega arith
all_here (ident ∷ idents) at negated (suc i) d inside = all_here idents at negated i d (omega arith)

-- names of elements before one are of elements before the next
one_later : (at : ℕ) (front : Placed) → All (λ (name : PatternName). name.element < at) front → All (λ (name : PatternName). name.element < suc at) front
one_later at front earlier i d inside = let less : (get_or front i d).element < at = earlier i d inside in omega arith

-- as many numbers as names
many_numbers : (first : ℕ) (element : QueryElement) → length (names_of (plan_element first element)) ≡ length (names_in element)
many_numbers first element = ap (λ (l : List ℕ). length l) (numbers_here first element) ∙ length-range_with_len first (width element) ∙ sym (length_names element)

module _ (q : Plan) (whole : Placed) where
  -- the predicate of a name reads names of earlier elements alone
  abbrev pub Reads : ℕ → Name → Type 0
  Reads here planned = IsComparable (readable q (before here whole)) planned.pred

  read_from : (elements : List QueryElement) (at : ℕ) (front : Placed) (names : List Name) (first : ℕ) → whole ≡ front ++ placed_names at elements → All (λ name. name.element < at) front → length front ≡ first
      → AllZip (λ name planned. Reads name.element planned) (placed_names at elements) names → ReadEarlier q first (plan_elements first elements) names
  read_from [] at front names first is earlier many zip = tt
  read_from (element ∷ elements) at front names first is earlier many zip =
      let idents = names_in element in
      let here = map (in_element at (is_negated element)) idents in
      let rest = placed_names (suc at) elements in
      let count : before at whole ≡ first = ap (before at) is ∙ front_before at front (here ++ rest) earlier (placed_ordered (element ∷ elements) at).1 ∙ many in
      let parts = zip_front Reads at (is_negated element) idents rest names zip in
      let own : All (λ (name : Name). IsComparable (readable q first) name.pred) (take (length idents) names) = subst (λ (n : ℕ). All (λ (name : Name). IsComparable (readable q n) name.pred) (take (length idents) names)) count parts.0 in
      let wide : length idents ≡ width element = length_names element in
      let grown : length (front ++ here) ≡ first + width element =
      length-append front here ∙ ap (λ (n : ℕ). n + length here) many ∙ ap (λ (n : ℕ). first + n) (length-map idents (in_element at (is_negated element)) ∙ wide) in
      let again : whole ≡ (front ++ here) ++ rest = is ∙ sym (append_assoc front here rest) in
      let below : All (λ (name : PatternName). name.element < suc at) (front ++ here) =
      All-append (λ (name : PatternName). name.element < suc at) front here (one_later at front earlier) (all_here idents at (is_negated element)) in
      let behind : ReadEarlier q (first + width element) (plan_elements (first + width element) elements) (drop (length idents) names) =
      read_from elements (suc at) (front ++ here) (drop (length idents) names) (first + width element) again below grown parts.1 in
      subst (λ (n : ℕ). All (λ (name : Name). IsComparable (readable q first) name.pred) (take n names) × ReadEarlier q (first + n) (plan_elements (first + width element) elements) (drop n names))
      (sym (many_numbers first element))
      (own, subst (λ (n : ℕ). ReadEarlier q (first + n) (plan_elements (first + width element) elements) (drop (length idents) names)) (sym wide) behind)

-- all names of the pattern
pub read_earlier : (q : Plan) (elements : List QueryElement) (names : List Name) → AllZip (λ name planned. IsComparable (readable q (before name.element (placed_names 0 elements))) planned.pred) (placed_names 0 elements) names
    → ReadEarlier q 0 (plan_elements 0 elements) names
read_earlier q elements names zip = read_from q (placed_names 0 elements) elements 0 [] names 0 refl (All-nil (λ name. name.element < 0)) refl zip

-- ---- names that aren't negated

-- names in front that aren't negated, and those behind them
bound_front : (idents : List Ident) (at first : ℕ) (rest : Placed) → binding_from first (map (in_element at false) idents ++ rest) ≡ range_with_len first (length idents) ++ binding_from (first + length idents) rest
bound_front [] at first rest = ap (λ (n : ℕ). binding_from n rest) (omega arith)
bound_front (ident ∷ idents) at first rest =
    let sum : suc first + length idents ≡ first + suc (length idents) = omega arith in
    ap (λ (l : List ℕ). first ∷ l)
    (bound_front idents at (suc first) rest
    ∙ ap (λ (n : ℕ). range_with_len n (length idents) ++ binding_from (suc first + length idents) rest) (sym (add-one first))
    ∙ ap (λ (n : ℕ). range_with_len (first + 1) (length idents) ++ binding_from n rest) sum)

-- the numbers of an element's names that aren't negated, and those of the names behind
bound_here : (element : QueryElement) (at first : ℕ) (rest : Placed) → binding_from first (map (in_element at (is_negated element)) (names_in element) ++ rest) ≡ binds (plan_element first element) ++ binding_from (first + width element) rest
bound_here (e.One name) at first rest = bound_front (name ∷ []) at first rest
bound_here (e.Plus name span) at first rest = bound_front (name ∷ []) at first rest
bound_here (e.Set names) at first rest = bound_front names at first rest
bound_here (e.Never name span) at first rest = ap (λ (n : ℕ). binding_from n rest) (sym (add-one first))

-- the names of the plan to which events are bound are those of the pattern that aren't negated
pub binding_is : (elements : List QueryElement) (at first : ℕ) → flat_map binds (plan_elements first elements) ≡ binding_from first (placed_names at elements)
binding_is [] at first = refl
binding_is (element ∷ elements) at first =
    flat_map-cons binds (plan_element first element) (plan_elements (first + width element) elements)
    ∙ ap (λ (l : List ℕ). binds (plan_element first element) ++ l) (binding_is elements (suc at) (first + width element))
    ∙ sym (bound_here element at first (placed_names (suc at) elements))

equal_itself : (n : ℕ) → (n == n) ≡ true
equal_itself n = grind (arith, nat_tests)

-- a name that isn't negated is among these
pub binding_there : (names : Placed) (first k : ℕ) (d : PatternName) → k < length names → (get_or names k d).negated ≡ false → is_among (binding_from first names) (first + k) ≡ true
binding_there [] first k d inside bound = absurd (omega arith)
binding_there (name ∷ names) first zero d inside bound =
    ap (λ (b : Bool). is_among (cond b (binding_from (suc first) names) (first ∷ binding_from (suc first) names)) (first + 0)) bound
    ∙ ap (λ (n : ℕ). is_among (first ∷ binding_from (suc first) names) n) (omega arith)
    ∙ ap (λ (b : Bool). b || is_among (binding_from (suc first) names) first) (equal_itself first)
binding_there (name ∷ names) first (suc k) d inside bound =
    let behind : is_among (binding_from (suc first) names) (suc first + k) ≡ true = binding_there names (suc first) k d (omega arith) bound in
    let sum : suc first + k ≡ first + suc k = omega arith in
    also name.negated (binding_from (suc first) names) first (first + suc k) (ap (is_among (binding_from (suc first) names)) (sym sum) ∙ behind)
  where
    also : (b : Bool) (l : List ℕ) (m n : ℕ) → is_among l n ≡ true → is_among (cond b l (m ∷ l)) n ≡ true
    also true l m n h = h
    also false l m n h = or_right (m == n) (is_among l n) h
