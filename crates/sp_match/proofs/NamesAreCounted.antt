-- How many names a run has bound, and how many it lacks.
use Rattle.std.proofs.Common.{◌≡◌, ◌≢◌, ℕ, suc, zero, ◌+◌, ◌<◌, ◌≤◌, Bool, true, false, cond, not, ◌||◌, ◌==◌, List, [], ◌∷◌, ◌++◌, length, Some, refl, sym, ap, ◌∙◌, arith}
use Rattle.std.specs.Prelude.{is_some}
use Rattle.std.specs.List.{filter, flat_map, range_with_len}
use Rattle.std.proofs.lemmas.Bool.Decides.{nat_tests}
use Rattle.std.proofs.lemmas.List.{length-append}
use Rattle.std.proofs.lemmas.List.Elements.{filter-append}
use Rattle.std.proofs.lemmas.List.Filters.{length-filter_both}
use Rattle.std.proofs.lemmas.List.Folds.{list_any-append}
use Rattle.std.proofs.lemmas.List.FromFn.{length-range_with_len}
use Rattle.sp_base.specs.Numbers.{is_among}
use Rattle.sp_plan.specs.declared.plan.Plan.{Plan}
use Rattle.sp_plan.specs.declared.plan.Element.{Element}
use Rattle.sp_plan.specs.declared.plan.Element.TheVariants.{One, Plus, Set, Never}
use Rattle.sp_plan.specs.Compiled.{IsCompiled, numbers_of}
use Rattle.sp_plan.specs.Runs.{Pair, Run, binds, bound_names, is_bound, names_of, unbound}
use Rattle.sp_plan.specs.Moves.{left}
use Rattle.sp_match.specs.inside.Good.{bound_count}
use Rattle.sp_match.specs.inside.Taking.{negated_count, negated_name}

-- whether a run lacks a name
abbrev lacks : Run → ℕ → Bool
lacks r name = not (is_bound r name)

all_lacked : (r : Run) (elements : List Element) → flat_map (λ element. unbound r (Some element)) elements ≡ filter (lacks r) (flat_map binds elements)
all_lacked r [] = refl
all_lacked r (element ∷ elements) =
    ap (λ ns. filter (lacks r) (binds element) ++ ns) (all_lacked r elements) ∙ sym (filter-append (lacks r) (binds element) (flat_map binds elements))

-- a run lacks the names that it hasn't bound
both_are : (q : Plan) (r : Run) → bound_count q r + left q r ≡ length (bound_names q)
both_are q r = ap (λ (ns : List ℕ). bound_count q r + length ns) (all_lacked r q.elements) ∙ length-filter_both (is_bound r) (lacks r) (λ name. refl) (bound_names q)

-- how many pass, of a number and those behind it
passing : {X : Type 0} (p : X → Bool) (x : X) (xs : List X) → length (filter p (x ∷ xs)) ≡ cond (p x) 1 0 + length (filter p xs)
passing p x xs = one (p x)
  where
    one : (b : Bool) → length (cond b (x ∷ filter p xs) (filter p xs)) ≡ cond b 1 0 + length (filter p xs)
    one true = omega arith
    one false = omega arith

-- an element's names bind events, or it is negated and has one
one_named : (element : Element) → length (binds element) + cond (is_some (negated_name element)) 1 0 ≡ length (names_of element)
one_named (One name) = omega arith
one_named (Plus name) = omega arith
one_named (Set first count) = omega arith
one_named (Never name) = omega arith

all_named : (elements : List Element) → length (flat_map binds elements) + length (filter (λ element. is_some (negated_name element)) elements) ≡ length (numbers_of elements)
all_named [] = refl
all_named (element ∷ elements) =
    let here = one_named element in
    let rest = all_named elements in
    let counted = passing (λ (e : Element). is_some (negated_name e)) element elements in
    omega (arith, here, rest, counted, length-append (binds element) (flat_map binds elements), length-append (names_of element) (numbers_of elements))

-- the names that bind events, and those that are negated
pub names_counted : (q : Plan) → IsCompiled q → length (bound_names q) + negated_count q.elements ≡ length q.names
names_counted q compiled = all_named q.elements ∙ ap length compiled.elements ∙ length-range_with_len 0 (length q.names)

-- a run has bound at most all names
pub bound_few : (q : Plan) (r : Run) → IsCompiled q → bound_count q r ≤ length q.names
bound_few q r compiled = let both = both_are q r in let all = names_counted q compiled in omega (arith, both, all)

-- and lacks the others, but for those that are negated
pub bound_and_left : (q : Plan) (r : Run) → IsCompiled q → bound_count q r + left q r + negated_count q.elements ≡ length q.names
bound_and_left q r compiled = let both = both_are q r in let all = names_counted q compiled in omega (arith, both, all)

-- how often a number stands among these
abbrev times : ℕ → List ℕ → ℕ
times name ns = length (filter (λ n. n == name) ns)

-- Of two tests that agree but on one number, which passes the second: the second counts one more for each time that the number stands
-- there, where it fails the first.
module _ (p t : ℕ → Bool) (name : ℕ) (here : t name ≡ true) (agree : (m : ℕ) → m ≢ name → t m ≡ p m) where
  more : (ns : List ℕ) → length (filter t ns) ≡ length (filter p ns) + cond (p name) 0 (times name ns)
  more [] = one (p name)
    where
      one : (b : Bool) → 0 ≡ 0 + cond b 0 0
      one true = refl
      one false = refl
  more (n ∷ ns) = one (n == name) refl (more ns)
    where
      Rest : Type 0
      Rest = length (filter t ns) ≡ length (filter p ns) + cond (p name) 0 (times name ns)

      counts : Rest → (b c d : Bool) → t n ≡ b → p n ≡ c → p name ≡ d → (e : Bool) → (n == name) ≡ e → cond b 1 0 + cond d 0 (times name ns) ≡ cond c 1 0 + cond d 0 (cond e 1 0 + times name ns) → length (filter t (n ∷ ns)) ≡ length (filter p (n ∷ ns)) + cond (p name) 0 (times name (n ∷ ns))
      counts ih b c d tn pn pname e is sum =
          let first : length (filter t (n ∷ ns)) ≡ cond b 1 0 + length (filter t ns) = passing t n ns ∙ ap (λ (a : Bool). cond a 1 0 + length (filter t ns)) tn in
          let second : length (filter p (n ∷ ns)) ≡ cond c 1 0 + length (filter p ns) = passing p n ns ∙ ap (λ (a : Bool). cond a 1 0 + length (filter p ns)) pn in
          let often : times name (n ∷ ns) ≡ cond e 1 0 + times name ns = passing (λ m. m == name) n ns ∙ ap (λ (a : Bool). cond a 1 0 + times name ns) is in
          let rest : length (filter t ns) ≡ length (filter p ns) + cond d 0 (times name ns) = ih ∙ ap (λ (a : Bool). length (filter p ns) + cond a 0 (times name ns)) pname in
          let all : cond (p name) 0 (times name (n ∷ ns)) ≡ cond d 0 (cond e 1 0 + times name ns) = λ i. cond (pname i) 0 (often i) in
          omega (arith, first, second, rest, all, sum)

      one : (b : Bool) → (n == name) ≡ b → Rest → length (filter t (n ∷ ns)) ≡ length (filter p (n ∷ ns)) + cond (p name) 0 (times name (n ∷ ns))
      one true e ih = two (p name) refl
        where
          same : n ≡ name
          same = grind (arith, nat_tests)

          two : (b : Bool) → p name ≡ b → length (filter t (n ∷ ns)) ≡ length (filter p (n ∷ ns)) + cond (p name) 0 (times name (n ∷ ns))
          two true own = counts ih true true true (ap t same ∙ here) (ap p same ∙ own) own true e refl
          two false own = counts ih true false false (ap t same ∙ here) (ap p same ∙ own) own true e (omega arith)
      one false e ih = two (p n) (p name) refl refl
        where
          other : n ≢ name
          other = grind (arith, nat_tests)

          two : (b c : Bool) → p n ≡ b → p name ≡ c → length (filter t (n ∷ ns)) ≡ length (filter p (n ∷ ns)) + cond (p name) 0 (times name (n ∷ ns))
          two true true own is = counts ih true true true (agree n other ∙ own) own is false e refl
          two true false own is = counts ih true true false (agree n other ∙ own) own is false e (omega arith)
          two false true own is = counts ih false false true (agree n other ∙ own) own is false e refl
          two false false own is = counts ih false false false (agree n other ∙ own) own is false e (omega arith)

-- ---- each name stands once among those that bind events

none_before : (name a n : ℕ) → name < a → times name (range_with_len a n) ≡ 0
none_before name a zero below = refl
none_before name a (suc n) below =
    let other : (a == name) ≡ false = grind (arith, nat_tests) in
    passing (λ m. m == name) a (range_with_len (a + 1) n) ∙ (λ i. cond (other i) 1 0 + none_before name (a + 1) n (omega (arith, below)) i)

once_in_range : (name a n : ℕ) → times name (range_with_len a n) ≤ 1
once_in_range name a zero = omega arith
once_in_range name a (suc n) = one (a == name) refl (once_in_range name (a + 1) n)
  where
    step : (b : Bool) → (a == name) ≡ b → times name (range_with_len a (suc n)) ≡ cond b 1 0 + times name (range_with_len (a + 1) n)
    step b e = passing (λ m. m == name) a (range_with_len (a + 1) n) ∙ ap (λ (c : Bool). cond c 1 0 + times name (range_with_len (a + 1) n)) e

    one : (b : Bool) → (a == name) ≡ b → times name (range_with_len (a + 1) n) ≤ 1 → times name (range_with_len a (suc n)) ≤ 1
    one true e rest =
        let same : a ≡ name = grind (arith, nat_tests) in
        let none = none_before name (a + 1) n (omega (arith, same)) in
        omega (arith, step true e, none)
    one false e rest = omega (arith, step false e, rest)

times-append : (name : ℕ) (xs ys : List ℕ) → times name (xs ++ ys) ≡ times name xs + times name ys
times-append name xs ys = ap length (filter-append (λ n. n == name) xs ys) ∙ length-append (filter (λ n. n == name) xs) (filter (λ n. n == name) ys)

fewer : (name : ℕ) (element : Element) → times name (binds element) ≤ times name (names_of element)
fewer name (One a) = omega arith
fewer name (Plus a) = omega arith
fewer name (Set first count) = omega arith
fewer name (Never a) = omega arith

all_fewer : (name : ℕ) (elements : List Element) → times name (flat_map binds elements) ≤ times name (numbers_of elements)
all_fewer name [] = omega arith
all_fewer name (element ∷ elements) =
    let here = fewer name element in
    let rest = all_fewer name elements in
    omega (arith, here, rest, times-append name (binds element) (flat_map binds elements), times-append name (names_of element) (numbers_of elements))

some_times : (name : ℕ) (ns : List ℕ) → is_among ns name ≡ true → 1 ≤ times name ns
some_times name [] among = absurd (let f : false ≡ true = among in cc)
some_times name (n ∷ ns) among = one (n == name) refl (some_times name ns) among
  where
    step : (b : Bool) → (n == name) ≡ b → times name (n ∷ ns) ≡ cond b 1 0 + times name ns
    step b e = passing (λ m. m == name) n ns ∙ ap (λ (c : Bool). cond c 1 0 + times name ns) e

    one : (b : Bool) → (n == name) ≡ b → (is_among ns name ≡ true → 1 ≤ times name ns) → (b || is_among ns name) ≡ true → 1 ≤ times name (n ∷ ns)
    one true e ih is = omega (arith, step true e)
    one false e ih is = let rest = ih is in omega (arith, step false e, rest)

stands_once : (q : Plan) (name : ℕ) → IsCompiled q → is_among (bound_names q) name ≡ true → times name (bound_names q) ≡ 1
stands_once q name compiled among =
    let some = some_times name (bound_names q) among in
    let all = all_fewer name q.elements in
    let most = once_in_range name 0 (length q.names) in
    let same : times name (numbers_of q.elements) ≡ times name (range_with_len 0 (length q.names)) = ap (times name) compiled.elements in
    omega (arith, some, all, most, same)

-- a run with one pair more has bound one name more, where it lacked the pair's
pub bound_grown : (q : Plan) (r : Run) (pair : Pair) → IsCompiled q → is_among (bound_names q) pair.name ≡ true → bound_count q (r ++ pair ∷ []) ≡ bound_count q r + cond (is_bound r pair.name) 0 1
bound_grown q r pair compiled among =
    more (is_bound r) (is_bound (r ++ pair ∷ [])) pair.name here agree (bound_names q) ∙ ap (λ (n : ℕ). bound_count q r + cond (is_bound r pair.name) 0 n) (stands_once q pair.name compiled among)
  where
    any_true : (b : Bool) → (b || true) ≡ true
    any_true true = refl
    any_true false = refl

    any_same : (b : Bool) → (b || false) ≡ b
    any_same true = refl
    any_same false = refl

    here : is_bound (r ++ pair ∷ []) pair.name ≡ true
    here =
        let own : (pair.name == pair.name) ≡ true = grind (arith, nat_tests) in
        list_any-append (λ p. p.name == pair.name) r (pair ∷ []) ∙ (λ i. is_bound r pair.name || (own i || false)) ∙ any_true (is_bound r pair.name)

    agree : (m : ℕ) → m ≢ pair.name → is_bound (r ++ pair ∷ []) m ≡ is_bound r m
    agree m other =
        let not_own : (pair.name == m) ≡ false = grind (arith, nat_tests) in
        list_any-append (λ p. p.name == m) r (pair ∷ []) ∙ (λ i. is_bound r m || (not_own i || false)) ∙ any_same (is_bound r m)
