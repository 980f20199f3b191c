-- The names of a compiled plan's elements are below 32.
use Rattle.std.proofs.Common.{◌≡◌, inl, inr, Bool, true, false, cond, not, Some, IfSome, ℕ, suc, zero, ◌+◌, ◌<◌, ◌≤◌, List, [], ◌∷◌, ◌++◌, length, get_or, refl, sym, subst, arith}
use Rattle.std.specs.List.{All, find, range_with_len}
use Rattle.std.proofs.lemmas.List.Elements.{All-nil, All-cons, All-head, All-tail, All-get_or}
use Rattle.sp_plan.specs.declared.plan.Plan.{Plan}
use Rattle.sp_plan.specs.declared.plan.Element.{Element}
use Rattle.sp_plan.specs.declared.plan.Element.TheVariants.{One, Plus, Set, Never}
use Rattle.sp_plan.specs.Compiled.{IsCompiled, numbers_of}
use Rattle.sp_plan.specs.Runs.{names_of}
use Rattle.sp_scan.specs.inside.Ahead.{IsNamed}

-- these numbers are below 32
abbrev Few : List ℕ → Type 0
Few ns = All (λ n. n < 32) ns

range_few : (a n : ℕ) → a + n ≤ 32 → Few (range_with_len a n)
range_few a zero small = All-nil (λ n. n < 32)
range_few a (suc n) small = All-cons (λ n. n < 32) a (range_with_len (a + 1) n) (omega arith) (range_few (a + 1) n (omega arith))

last_few : (a m : ℕ) → Few (range_with_len a (suc m)) → a + suc m ≤ 32
last_few a zero all = let first = All-head (λ n. n < 32) a [] all in omega (arith, first)
last_few a (suc m) all = let rest = last_few (a + 1) m (All-tail (λ n. n < 32) a (range_with_len (a + 1) (suc m)) all) in omega (arith, rest)

front : (xs ys : List ℕ) → Few (xs ++ ys) → Few xs
front [] ys all = All-nil (λ n. n < 32)
front (x ∷ xs) ys all = All-cons (λ n. n < 32) x xs (All-head (λ n. n < 32) x (xs ++ ys) all) (front xs ys (All-tail (λ n. n < 32) x (xs ++ ys) all))

back : (xs ys : List ℕ) → Few (xs ++ ys) → Few ys
back [] ys all = all
back (x ∷ xs) ys all = back xs ys (All-tail (λ n. n < 32) x (xs ++ ys) all)

named_one : (element : Element) → Few (names_of element) → IsNamed element
named_one (One name) all = All-head (λ n. n < 32) name [] all
named_one (Plus name) all = All-head (λ n. n < 32) name [] all
named_one (Never name) all = All-head (λ n. n < 32) name [] all
named_one (Set first zero) all = inr refl
named_one (Set first (suc m)) all = inl (last_few first m all)

named_all : (elements : List Element) → Few (numbers_of elements) → All IsNamed elements
named_all [] all = All-nil IsNamed
named_all (element ∷ elements) all = All-cons IsNamed element elements (named_one element (front (names_of element) (numbers_of elements) all)) (named_all elements (back (names_of element) (numbers_of elements) all))

pub elements_named : (q : Plan) → IsCompiled q → All IsNamed q.elements
elements_named q compiled = named_all q.elements (subst Few (sym compiled.elements) (range_few 0 (length q.names) (let names = compiled.names in omega arith)))

-- the element at a place of the plan's, as it is read
pub named_at : (q : Plan) (elements : List Element) (i : ℕ) (d : Element) → IsCompiled q → elements ≡ q.elements → i < length elements → IsNamed (get_or elements i d)
named_at q elements i d compiled same within = All-get_or IsNamed elements i d within (subst (All IsNamed) (sym same) (elements_named q compiled))

-- what is found is one of the list
pub found_keeps : {X : Type 0} (P : X → Type 0) (p : X → Bool) (xs : List X) → All P xs → IfSome (find p xs) P
found_keeps P p [] all = tt
found_keeps {X} P p (x ∷ xs) all = one (p x) (found_keeps P p xs (All-tail P x xs all))
  where
    one : (b : Bool) → IfSome (find p xs) P → IfSome (cond b (Some x) (find p xs)) P
    one true rest = All-head P x xs all
    one false rest = rest

-- what is found that fails does so
pub found_fails : {X : Type 0} (p : X → Bool) (xs : List X) → IfSome (find (λ x. not (p x)) xs) (λ x. p x ≡ false)
found_fails p [] = tt
found_fails {X} p (x ∷ xs) = one (p x) refl (found_fails p xs)
  where
    one : (b : Bool) → p x ≡ b → IfSome (find (λ x. not (p x)) xs) (λ x. p x ≡ false) → IfSome (cond (not b) (Some x) (find (λ x. not (p x)) xs)) (λ x. p x ≡ false)
    one true is rest = rest
    one false is rest = is
