-- The names of a compiled plan's elements are below 32.
use Rattle.std.proofs.Common.{◌≡◌, inl, inr, ℕ, suc, zero, ◌+◌, ◌≤◌, Bool, true, false, ◌&&◌, List, [], ◌∷◌, length, refl, sym, ap, ◌∙◌, arith}
use Rattle.std.specs.Prelude.{nat_lt}
use Rattle.std.specs.List.{All, list_all, range_with_len}
use Rattle.std.proofs.lemmas.Bool.Decides.{nat_tests}
use Rattle.std.proofs.lemmas.List.Elements.{All-nil, All-cons}
use Rattle.std.proofs.lemmas.List.Folds.{list_all-append}
use Rattle.sp_plan.specs.declared.plan.Plan.{Plan}
use Rattle.sp_plan.specs.declared.plan.Element.{Element}
use Rattle.sp_plan.specs.declared.plan.Element.TheVariants.{One, Plus, Set, Never}
use Rattle.sp_plan.specs.Compiled.{IsCompiled, numbers_of}
use Rattle.sp_plan.specs.Runs.{names_of}
use Rattle.sp_match.specs.inside.Good.{IsNamed}

abbrev few : List ℕ → Bool
few ns = list_all (λ n. nat_lt n 32) ns

both_true : (a b : Bool) → (a && b) ≡ true → (a ≡ true) × (b ≡ true)
both_true true b e = (refl, e)
both_true false b e = absurd (let f : false ≡ true = e in cc)

range_few : (a n : ℕ) → a + n ≤ 32 → few (range_with_len a n) ≡ true
range_few a zero small = refl
range_few a (suc n) small =
    let first : nat_lt a 32 ≡ true = grind (arith, nat_tests) in
    let rest : few (range_with_len (a + 1) n) ≡ true = range_few (a + 1) n (omega arith) in
    λ k. first k && rest k

last_few : (a m : ℕ) → few (range_with_len a (suc m)) ≡ true → a + suc m ≤ 32
last_few a zero all = let first : nat_lt a 32 ≡ true = (both_true _ _ all).0 in grind (arith, nat_tests)
last_few a (suc m) all = let rest : a + 1 + suc m ≤ 32 = last_few (a + 1) m (both_true (nat_lt a 32) (few (range_with_len (a + 1) (suc m))) all).1 in omega (arith, rest)

named_one : (element : Element) → few (names_of element) ≡ true → IsNamed element
named_one (One name) all = let first : nat_lt name 32 ≡ true = (both_true _ _ all).0 in grind (arith, nat_tests)
named_one (Plus name) all = let first : nat_lt name 32 ≡ true = (both_true _ _ all).0 in grind (arith, nat_tests)
named_one (Never name) all = let first : nat_lt name 32 ≡ true = (both_true _ _ all).0 in grind (arith, nat_tests)
named_one (Set first zero) all = inr refl
named_one (Set first (suc m)) all = inl (last_few first m all)

named_all : (elements : List Element) → few (numbers_of elements) ≡ true → All IsNamed elements
named_all [] all = All-nil IsNamed
named_all (element ∷ elements) all =
    let both = both_true (few (names_of element)) (few (numbers_of elements)) (sym (list_all-append (λ n. nat_lt n 32) (names_of element) (numbers_of elements)) ∙ all) in
    All-cons IsNamed element elements (named_one element both.0) (named_all elements both.1)

pub elements_named : (q : Plan) → IsCompiled q → All IsNamed q.elements
elements_named q compiled = named_all q.elements (ap few compiled.elements ∙ range_few 0 (length q.names) (let names = compiled.names in omega arith))
