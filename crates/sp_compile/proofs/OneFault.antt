-- The checks of a query find one thing.
use Rattle.std.proofs.Common.{◌≡◌, ℕ, true, List, [], ◌∷◌, ◌++◌, Option, Some, None, refl, sym, ◌∙◌, ap, subst, arith}
use Rattle.sp_query.specs.declared.tree.Tree.{Tree, out-Tree}
use Rattle.sp_query.specs.declared.tree.Node.{Node}
use Rattle.sp_query.specs.declared.tree.Node.TheVariants as n
use Rattle.sp_query.specs.declared.query.Ident.{Ident}
use Rattle.sp_query.specs.declared.query.Query.{Query}
use Rattle.sp_query.specs.declared.query.QueryOpening.{QueryOpening}
use Rattle.sp_query.specs.declared.query.QueryOpening.TheVariants as o
use Rattle.sp_compile.specs.declared.fault.CompileFault.{CompileFault}
use Rattle.sp_compile.specs.declared.sort.Sort.{Sort}
use Rattle.sp_compile.specs.Scopes.{Scope}
use Rattle.sp_compile.specs.Sorts.{Verdict, constant_sort, is_arithmetic}
use Rattle.sp_compile.specs.Checks.{Types, constant, own, earlier, minus, binary, is_junction, Tests, compared, joined, denied, columns_fault, time_fault, elements_fault, length_fault, consume_fault, scope_of, defined, Defines, none, misnamed, faulty, fine, OpeningFault, Then, stops, goes, Finds, Checks}

-- which kind of root a node is
abbrev pub kind : Node → ℕ
kind (n.Whole x) = 0
kind (n.Decimal units scale) = 0
kind (n.Literal text) = 0
kind (n.Own text) = 1
kind (n.Earlier name text) = 2
kind n.Minus = 3
kind n.Add = 4
kind n.Sub = 4
kind n.Mul = 4
kind (n.Test by) = 5
kind n.And = 6
kind n.Or = 6
kind n.Not = 7

-- of which kind the root of each sort of tree is
pub constant_kind : (node : Node) (sort : Sort) → constant_sort node ≡ Some sort → kind node ≡ 0
constant_kind (n.Whole x) sort e = refl
constant_kind (n.Decimal units scale) sort e = refl
constant_kind (n.Literal text) sort e = refl
constant_kind _ sort e = absurd cc

arithmetic_kind : (node : Node) → is_arithmetic node ≡ true → kind node ≡ 4
arithmetic_kind n.Add e = refl
arithmetic_kind n.Sub e = refl
arithmetic_kind n.Mul e = refl
arithmetic_kind _ e = absurd cc

junction_kind : (node : Node) → is_junction node ≡ true → kind node ≡ 6
junction_kind n.And e = refl
junction_kind n.Or e = refl
junction_kind _ e = absurd cc

-- ---- sorts

-- the kind of root that a derivation of a sort is of
abbrev typed : {scope : Scope} {t : Tree} {a : Verdict} → Types scope t a → ℕ
typed (constant _ _ _ _ _) = 0
typed (own _ _ _ _ _) = 1
typed (earlier _ _ _ _ _ _) = 2
typed (minus _ _ _ _ _ _ _ _) = 3
typed (binary _ _ _ _ _ _ _ _ _ _ _) = 4

-- it is the tree's
typed_kind : (scope : Scope) (t : Tree) (a : Verdict) (d : Types scope t a) → kind (out-Tree t).node ≡ typed d
typed_kind scope t a (constant _ sort _ e f) = constant_kind _ sort e
typed_kind scope t a (own _ text _ e f) = ap kind e
typed_kind scope t a (earlier _ name text _ e f) = ap kind e
typed_kind scope t a (minus _ part inner _ e f d g) = ap kind e
typed_kind scope t a (binary _ left right one other _ e f d d' g) = arithmetic_kind _ e

-- an expression has one sort, or one first fault
pub one_sort : (scope : Scope) (t : Tree) (a b : Verdict) → Types scope t a → Types scope t b → a ≡ b
one_sort scope t a b (constant _ sort _ e f) (constant _ sort' _ e' f') = cc
one_sort scope t a b (own _ text _ e f) (own _ text' _ e' f') = cc
one_sort scope t a b (earlier _ name text _ e f) (earlier _ name' text' _ e' f') = cc
one_sort scope t a b (minus _ part inner _ e f d g) (minus _ part' inner' _ e' f' d' g') =
    let same : part ≡ part' = cc in
    let k = one_sort scope part inner inner' d (subst (λ p. Types scope p inner') (sym same) d') in
    cc
one_sort scope t a b (binary _ left right one other _ e f d i g) (binary _ left' right' one' other' _ e' f' d' i' g') =
    let same : left ≡ left' = cc in
    let same' : right ≡ right' = cc in
    let k = one_sort scope left one one' d (subst (λ p. Types scope p one') (sym same) d') in
    let l = one_sort scope right other other' i (subst (λ p. Types scope p other') (sym same') i') in
    cc
one_sort scope t a b d e = absurd (omega (arith, typed_kind scope t a d, typed_kind scope t b e))

-- ---- predicates

-- the kind of root that a derivation of a predicate's fault is of
abbrev tested : {scope : Scope} {t : Tree} {a : Option CompileFault} → Tests scope t a → ℕ
tested (compared _ _ _ _ _ _ _ _ _ _ _ _) = 5
tested (joined _ _ _ _ _ _ _ _ _ _ _) = 6
tested (denied _ _ _ _ _ _) = 7

-- it is the tree's
tested_kind : (scope : Scope) (t : Tree) (a : Option CompileFault) (d : Tests scope t a) → kind (out-Tree t).node ≡ tested d
tested_kind scope t a (compared _ left right by one other _ e f d d' g) = ap kind e
tested_kind scope t a (joined _ left right one other _ e f d d' g) = junction_kind _ e
tested_kind scope t a (denied _ part _ e f d) = ap kind e

-- a predicate has one first fault, or none
pub one_test : (scope : Scope) (t : Tree) (a b : Option CompileFault) → Tests scope t a → Tests scope t b → a ≡ b
one_test scope t a b (compared _ left right by one other _ e f d i g) (compared _ left' right' by' one' other' _ e' f' d' i' g') =
    let same : left ≡ left' = cc in
    let same' : right ≡ right' = cc in
    let k = one_sort scope left one one' d (subst (λ p. Types scope p one') (sym same) d') in
    let l = one_sort scope right other other' i (subst (λ p. Types scope p other') (sym same') i') in
    cc
one_test scope t a b (joined _ left right one other _ e f d i g) (joined _ left' right' one' other' _ e' f' d' i' g') =
    let same : left ≡ left' = cc in
    let same' : right ≡ right' = cc in
    let k = one_test scope left one one' d (subst (λ p. Tests scope p one') (sym same) d') in
    let l = one_test scope right other other' i (subst (λ p. Tests scope p other') (sym same') i') in
    cc
one_test scope t a b (denied _ part _ e f d) (denied _ part' _ e' f' d') =
    let same : part ≡ part' = cc in
    one_test scope part a b d (subst (λ p. Tests scope p b) (sym same) d')
one_test scope t a b d e = absurd (omega (arith, tested_kind scope t a d, tested_kind scope t b e))

-- ---- clauses

-- of these faults, and none, just one is so
abbrev pub IsOne : (Option CompileFault → Type 0) → Type 0
IsOne P = (a b : Option CompileFault) → P a → P b → a ≡ b

-- so have definitions, an opening, a check, and checks in a row
one_defines : (query : Query) (before : List (List ℕ)) (defines : List (Ident × Tree)) → IsOne (Defines query before defines)
one_defines query before [] _ _ (none _) (none _) = refl
one_defines query before (_ ∷ _) _ _ (misnamed _ name pred rest fault e) (misnamed _ _ _ _ fault' e') = cc
one_defines query before (_ ∷ _) _ _ (misnamed _ name pred rest fault e) (faulty _ _ _ _ fault' e' d) = absurd cc
one_defines query before (_ ∷ _) _ _ (misnamed _ name pred rest fault e) (fine _ _ _ _ fault' e' d i) = absurd cc
one_defines query before (_ ∷ _) _ _ (faulty _ name pred rest fault e d) (misnamed _ _ _ _ fault' e') = absurd cc
one_defines query before (_ ∷ _) _ _ (faulty _ name pred rest fault e d) (faulty _ _ _ _ fault' e' d') = one_test _ pred _ _ d d'
one_defines query before (_ ∷ _) _ _ (faulty _ name pred rest fault e d) (fine _ _ _ _ fault' e' d' i) =
    let k = one_test (scope_of query (defined query name)) pred (Some fault) None d d' in
    absurd cc
one_defines query before (_ ∷ _) _ _ (fine _ name pred rest fault e d i) (misnamed _ _ _ _ fault' e') = absurd cc
one_defines query before (_ ∷ _) _ _ (fine _ name pred rest fault e d i) (faulty _ _ _ _ fault' e' d') =
    let k = one_test (scope_of query (defined query name)) pred None (Some fault') d d' in
    absurd cc
one_defines query before (_ ∷ _) _ _ (fine _ name pred rest fault e d i) (fine _ _ _ _ fault' e' d' i') = one_defines query (before ++ name.text ∷ []) rest fault fault' i i'

one_opening : (query : Query) (opening : QueryOpening) → IsOne (OpeningFault query opening)
one_opening query (o.Every step unit span) a b d e = d ∙ sym e
one_opening query (o.When pred) a b d e = one_test (scope_of query None) pred a b d e

pub one_found : (found : Option CompileFault) → IsOne (Finds found)
one_found found a b d e = d ∙ sym e

pub one_then : (P Q : Option CompileFault → Type 0) → IsOne P → IsOne Q → IsOne (Then P Q)
one_then P Q p q _ _ (stops f d) (stops g e) = p (Some f) (Some g) d e
one_then P Q p q _ _ (stops f d) (goes b e i) =
    let k = p (Some f) None d e in
    absurd cc
one_then P Q p q _ _ (goes a d i) (stops g e) =
    let k = p None (Some g) d e in
    absurd cc
one_then P Q p q _ _ (goes a d i) (goes b e j) = q a b i j

-- the checks of a query find one fault, or none
pub one_fault : (query : Query) → IsOne (Checks query)
one_fault query =
    one_then _ _ (one_found (columns_fault [] query.columns)) (one_then _ _ (one_found (time_fault query.columns query.time)) (one_then _ _ (one_found (elements_fault query))
    (one_then _ _ (one_defines query [] query.defines) (one_then _ _ (one_found (length_fault query)) (one_then _ _ (one_opening query query.opening) (one_found (consume_fault query query.consume)))))))
