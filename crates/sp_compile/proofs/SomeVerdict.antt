-- A query that a text has has a verdict: a first fault, or none.
use Rattle.std.proofs.Common.{◌≡◌, ℕ, zero, suc, true, List, [], ◌∷◌, ◌++◌, Option, Some, None, Ok, refl, ap, sym, ◌∙◌, subst, if◌then◌else◌}
use Rattle.std.specs.List.{All}
use Rattle.std.proofs.lemmas.List.Elements.{All-nil, All-cons, All-append, All-head, All-tail}
use Rattle.sp_lex.specs.declared.token.Span.{Span}
use Rattle.sp_lex.specs.declared.token.Word.{Word}
use Rattle.sp_lex.specs.declared.token.Token.{Token}
use Rattle.sp_lex.specs.declared.token.Kernel.{Kernel}
use Rattle.sp_lex.specs.declared.token.Kernel.TheVariants as k
use Rattle.sp_lex.specs.declared.token.Word.TheVariants as w
use Rattle.sp_plan.specs.declared.plan.Compare.{Compare}
use Rattle.sp_plan.specs.declared.plan.Compare.TheVariants as c
use Rattle.sp_query.specs.declared.mark.Mark.TheVariants as m
use Rattle.sp_query.specs.declared.tree.Tree.{Tree, Tree-F, out-Tree, out-roll-Tree}
use Rattle.sp_query.specs.declared.tree.Node.{Node}
use Rattle.sp_query.specs.declared.tree.Node.TheVariants as n
use Rattle.sp_query.specs.declared.query.Ident.{Ident}
use Rattle.sp_query.specs.declared.query.Query.{Query}
use Rattle.sp_query.specs.declared.query.QueryOpening.{QueryOpening}
use Rattle.sp_query.specs.declared.query.QueryOpening.TheVariants as o
use Rattle.sp_query.specs.Phrase.{One, Both, Either, left, right, Built, Optional, Steps, ends, steps}
use Rattle.sp_query.specs.Grammar as g
use Rattle.sp_query.specs.Grammar.{kernel, tree, span, joined}
use Rattle.sp_query.specs.Queries.{IsQuery}
use Rattle.sp_compile.specs.declared.fault.CompileFault.{CompileFault}
use Rattle.sp_compile.specs.declared.fault.CompileFault.TheVariants as f
use Rattle.sp_compile.specs.declared.sort.Sort.{Sort}
use Rattle.sp_compile.specs.declared.sort.Sort.TheVariants as s
use Rattle.sp_compile.specs.Scopes.{Scope}
use Rattle.sp_compile.specs.Sorts.{Verdict, first, constant_sort, known_sort, is_arithmetic, own_sort, earlier_sort, minus_sort, binary_sort, test_fault}
use Rattle.sp_compile.specs.Checks.{span_of, Types, constant, own, earlier, minus, binary, is_junction, Tests, compared, joined as linked, denied, columns_fault, time_fault, elements_fault, length_fault, consume_fault, scope_of, defined, defined_fault, Defines, none, misnamed, faulty, fine, OpeningFault, step_is_fine, Then, stops, goes, Finds, Checks}

-- ---- trees

-- An expression has a sort, or a first fault; a predicate has a first fault, or none.
abbrev pub Typed : Tree → Type 0
Typed t = (scope : Scope) → (verdict : Verdict) × Types scope t verdict

abbrev pub Tested : Tree → Type 0
Tested t = (scope : Scope) → (fault : Option CompileFault) × Tests scope t fault

root_of : (node : Node) (parts : List Tree) (ts : List Token) → (out-Tree (tree node parts ts)).node ≡ node
root_of node parts ts = ap (λ (r : Tree-F Tree). r.node) (out-roll-Tree (record { node = node; parts = parts; span = span ts }))

parts_of : (node : Node) (parts : List Tree) (ts : List Token) → (out-Tree (tree node parts ts)).parts ≡ parts
parts_of node parts ts = ap (λ (r : Tree-F Tree). r.parts) (out-roll-Tree (record { node = node; parts = parts; span = span ts }))

-- what holds of the first and goes over each step holds of the last
over : {A B : Type 0} (step : List Token → B → Type 0) (join : List Token → A → B → A) (P : A → Type 0) → ((tokens back : List Token) (a : A) (b : B) → P a → step back b → P (join tokens a b)) → {front rest : List Token} {a c : A} → Steps step join front a rest c → P a → P c
over step join P next ends h = h
over step join P next (steps {front} {a} back rest b c s more) h = over step join P next more (next (front ++ back) back a b h s)

-- of operands joined by operators
grouped : (L : List Token → Tree → Type 0) (op : Kernel → Option Node) (P Q : Tree → Type 0) → ((tokens : List Token) (t : Tree) → L tokens t → P t) → ((t : Tree) → P t → Q t)
    → ((tokens : List Token) (node : Node) (one other : Tree) (which : Kernel) → op which ≡ Some node → Q one → P other → Q (tree node (one ∷ other ∷ []) tokens))
    → (tokens : List Token) (t : Tree) → g.Grouped L op tokens t → Q t
grouped L op P Q of up join tokens t d = over (Both (One (kernel op)) L) joined Q (λ ts back a b h step. join ts b.0 a b.1 step.left.token.kernel step.left.is h (of step.back b.1 step.right)) d.goes_on (up d.first (of d.front d.first d.begins))

-- ---- expressions

constant_typed : (which : Kernel) (node : Node) → g.constant which ≡ Some node → (sort : Sort) × (constant_sort node ≡ Some sort)
constant_typed (k.Whole x) node e = let is : n.Whole x ≡ node = cc in (s.Number 0 x, ap constant_sort (sym is))
constant_typed (k.Decimal units scale) node e = let is : n.Decimal units scale ≡ node = cc in (s.Number scale units, ap constant_sort (sym is))
constant_typed (k.Literal text) node e = let is : n.Literal text ≡ node = cc in (s.Text, ap constant_sort (sym is))
constant_typed _ node e = absurd cc

constant_is : (tokens : List Token) (t : Tree) → g.Constant tokens t → Typed t
constant_is tokens t d scope =
    let sort = constant_typed d.phrase.token.kernel d.of d.phrase.is in
    let node : (out-Tree t).node ≡ d.of = ap (λ t. (out-Tree t).node) d.is ∙ root_of d.of [] tokens in
    (known_sort scope (span_of t) (out-Tree t).node sort.0, constant t sort.0 (known_sort scope (span_of t) (out-Tree t).node sort.0) (ap constant_sort node ∙ sort.1) refl)

named_is : (tokens : List Token) (t : Tree) (p : List ℕ × Option (List ℕ)) → t ≡ g.named tokens p → Typed t
named_is tokens t (text, None) is scope =
    (own_sort scope (span_of t) text, own t text (own_sort scope (span_of t) text) (ap (λ t. (out-Tree t).node) is ∙ root_of (n.Own text) [] tokens) refl)
named_is tokens t (name, Some text) is scope =
    (earlier_sort scope (span_of t) name text, earlier t name text (earlier_sort scope (span_of t) name text) (ap (λ t. (out-Tree t).node) is ∙ root_of (n.Earlier name text) [] tokens) refl)

operand : (tokens : List Token) (t : Tree) → g.Operand tokens t → Typed t
operand tokens t (left d) = constant_is tokens t d
operand tokens t (right d) = named_is tokens t d.of d.is

binary_is : (tokens : List Token) (node : Node) (one other : Tree) → is_arithmetic node ≡ true → Typed one → Typed other → Typed (tree node (one ∷ other ∷ []) tokens)
binary_is tokens node one other arithmetic a b scope =
    let t = tree node (one ∷ other ∷ []) tokens in
    let x = a scope in
    let y = b scope in
    let verdict = binary_sort (out-Tree t).node (span_of t) x.0 y.0 in
    (verdict, binary t one other x.0 y.0 verdict (ap is_arithmetic (root_of node (one ∷ other ∷ []) tokens) ∙ arithmetic) (parts_of node (one ∷ other ∷ []) tokens) x.1 y.1 refl)

minus_is : (tokens : List Token) (part : Tree) → Typed part → Typed (tree n.Minus (part ∷ []) tokens)
minus_is tokens part a scope =
    let t = tree n.Minus (part ∷ []) tokens in
    let x = a scope in
    (minus_sort (span_of t) x.0, minus t part x.0 (minus_sort (span_of t) x.0) (root_of n.Minus (part ∷ []) tokens) (parts_of n.Minus (part ∷ []) tokens) x.1 refl)

times_arithmetic : (which : Kernel) (node : Node) → g.times which ≡ Some node → is_arithmetic node ≡ true
times_arithmetic k.Star node e = let is : n.Mul ≡ node = cc in ap is_arithmetic (sym is)
times_arithmetic _ node e = absurd cc

plus_arithmetic : (which : Kernel) (node : Node) → g.plus which ≡ Some node → is_arithmetic node ≡ true
plus_arithmetic k.Plus node e = let is : n.Add ≡ node = cc in ap is_arithmetic (sym is)
plus_arithmetic k.Minus node e = let is : n.Sub ≡ node = cc in ap is_arithmetic (sym is)
plus_arithmetic _ node e = absurd cc

module _ (F : List Token → Tree → Type 0) (of : (tokens : List Token) (t : Tree) → F tokens t → Typed t) where
  term : (tokens : List Token) (t : Tree) → g.TermOf F tokens t → Typed t
  term = grouped F g.times Typed Typed of (λ t h. h) (λ ts node one other which e a b. binary_is ts node one other (times_arithmetic which node e) a b)

  sum_of : (tokens : List Token) (t : Tree) → g.SumOf F tokens t → Typed t
  sum_of = grouped (g.TermOf F) g.plus Typed Typed term (λ t h. h) (λ ts node one other which e a b. binary_is ts node one other (plus_arithmetic which node e) a b)

factor : (room : ℕ) (tokens : List Token) (t : Tree) → g.Factor room tokens t → Typed t
unfolding g.Factor
factor zero tokens t d = operand tokens t d
factor (suc room) tokens t (left d) = operand tokens t d
factor (suc room) tokens t (right (left d)) = subst Typed (sym d.is) (minus_is tokens d.of.1 (factor room d.phrase.back d.of.1 d.phrase.right))
factor (suc room) tokens t (right (right d)) =
    subst Typed (sym d.is) (sum_of (g.Factor room) (factor room) d.phrase.right.front d.of.1.0 d.phrase.right.left)

sum : (room : ℕ) (tokens : List Token) (t : Tree) → g.Sum room tokens t → Typed t
sum room = sum_of (g.Factor room) (factor room)

-- ---- predicates

compare_is : (which : Kernel) (node : Node) → g.compare which ≡ Some node → (by : Compare) × (node ≡ n.Test by)
compare_is k.Equal node e = (c.Equal, (let is : n.Test c.Equal ≡ node = cc in sym is))
compare_is k.Unequal node e = (c.Unequal, (let is : n.Test c.Unequal ≡ node = cc in sym is))
compare_is k.Less node e = (c.Less, (let is : n.Test c.Less ≡ node = cc in sym is))
compare_is k.AtMost node e = (c.AtMost, (let is : n.Test c.AtMost ≡ node = cc in sym is))
compare_is k.Greater node e = (c.Greater, (let is : n.Test c.Greater ≡ node = cc in sym is))
compare_is k.AtLeast node e = (c.AtLeast, (let is : n.Test c.AtLeast ≡ node = cc in sym is))
compare_is _ node e = absurd cc

test : (room : ℕ) (tokens : List Token) (t : Tree) → g.TestOf (g.Sum room) tokens t → Tested t
test room tokens t d scope =
    let one = d.of.0 in
    let other = d.of.1.1 in
    let x = sum room d.phrase.front one d.phrase.left scope in
    let y = sum room d.phrase.right.back other d.phrase.right.right scope in
    let by = compare_is d.phrase.right.left.token.kernel d.of.1.0 d.phrase.right.left.is in
    let fault = test_fault by.0 (span_of t) (span_of one) (span_of other) x.0 y.0 in (
      fault,
      compared t one other by.0 x.0 y.0 fault (ap (λ t. (out-Tree t).node) d.is ∙ root_of d.of.1.0 (one ∷ other ∷ []) tokens ∙ by.1)
          (ap (λ t. (out-Tree t).parts) d.is ∙ parts_of d.of.1.0 (one ∷ other ∷ []) tokens) x.1 y.1 refl,
    )

junction_is : (tokens : List Token) (node : Node) (one other : Tree) → is_junction node ≡ true → Tested one → Tested other → Tested (tree node (one ∷ other ∷ []) tokens)
junction_is tokens node one other junction a b scope =
    let t = tree node (one ∷ other ∷ []) tokens in
    let x = a scope in
    let y = b scope in
    (first x.0 y.0, linked t one other x.0 y.0 (first x.0 y.0) (ap is_junction (root_of node (one ∷ other ∷ []) tokens) ∙ junction) (parts_of node (one ∷ other ∷ []) tokens) x.1 y.1 refl)

not_is : (tokens : List Token) (part : Tree) → Tested part → Tested (tree n.Not (part ∷ []) tokens)
not_is tokens part a scope =
    let x = a scope in
    (x.0, denied (tree n.Not (part ∷ []) tokens) part x.0 (root_of n.Not (part ∷ []) tokens) (parts_of n.Not (part ∷ []) tokens) x.1)

and_joins : (which : Kernel) (node : Node) → g.both_hold which ≡ Some node → is_junction node ≡ true
and_joins (k.Word w.And) node e = let is : n.And ≡ node = cc in ap is_junction (sym is)
and_joins _ node e = absurd cc

or_joins : (which : Kernel) (node : Node) → g.one_holds which ≡ Some node → is_junction node ≡ true
or_joins (k.Word w.Or) node e = let is : n.Or ≡ node = cc in ap is_junction (sym is)
or_joins _ node e = absurd cc

module _ (A : List Token → Tree → Type 0) (of : (tokens : List Token) (t : Tree) → A tokens t → Tested t) where
  conj : (tokens : List Token) (t : Tree) → g.ConjOf A tokens t → Tested t
  conj = grouped A g.both_hold Tested Tested of (λ t h. h) (λ ts node one other which e a b. junction_is ts node one other (and_joins which node e) a b)

  pred_of : (tokens : List Token) (t : Tree) → g.PredOf A tokens t → Tested t
  pred_of = grouped (g.ConjOf A) g.one_holds Tested Tested conj (λ t h. h) (λ ts node one other which e a b. junction_is ts node one other (or_joins which node e) a b)

atom : (room : ℕ) (tokens : List Token) (t : Tree) → g.Atom room tokens t → Tested t
unfolding g.Atom
atom zero tokens t d = test zero tokens t d
atom (suc room) tokens t (left d) = test (suc room) tokens t d
atom (suc room) tokens t (right (left d)) = subst Tested (sym d.is) (not_is tokens d.of.1 (atom room d.phrase.back d.of.1 d.phrase.right))
atom (suc room) tokens t (right (right d)) = subst Tested (sym d.is) (pred_of (g.Atom room) (atom room) d.phrase.right.front d.of.1.0 d.phrase.right.left)

pred : (room : ℕ) (tokens : List Token) (t : Tree) → g.Pred room tokens t → Tested t
pred room = pred_of (g.Atom room) (atom room)

-- ---- clauses

abbrev DefineTested : Ident × Tree → Type 0
DefineTested define = Tested define.1

abbrev AllTested : List (Ident × Tree) → Type 0
AllTested defines = All DefineTested defines

definition : (room : ℕ) (tokens : List Token) (define : Ident × Tree) → g.Definition room tokens define → Tested define.1
definition room tokens define d = subst Tested (sym d.right.is) (pred room d.right.phrase.back d.right.of.1 d.right.phrase.right)

definitions : (room : ℕ) (tokens : List Token) (defines : List (Ident × Tree)) → g.Definitions room tokens defines → AllTested defines
definitions room tokens defines d =
    let list = d.phrase.right in
    let begins : AllTested list.first =
    subst AllTested (sym list.begins.is) (All-cons DefineTested list.begins.of [] (definition room list.front list.begins.of list.begins.phrase) (All-nil DefineTested)) in
    let comma : List Token → Unit {0} × (Ident × Tree) → Type 0 = Both (One (kernel (g.mark m.Comma))) (g.Definition room) in
    let all : AllTested d.of.1 = over comma (λ tokens xs p. xs ++ p.1 ∷ []) AllTested
    (λ ts back a b h step. All-append DefineTested a (b.1 ∷ []) h (All-cons DefineTested b.1 [] (definition room step.back b.1 step.right) (All-nil DefineTested))) list.goes_on begins in
    subst AllTested (sym d.is) all

defined_all : (room : ℕ) (tokens : List Token) (defines : Option (List (Ident × Tree))) → Optional (g.Definitions room) tokens defines → AllTested (g.items defines)
defined_all room tokens None d = All-nil DefineTested
defined_all room tokens (Some defines) d = definitions room tokens defines d

defines_some : (query : Query) (before : List (List ℕ)) (defines : List (Ident × Tree)) → AllTested defines → (fault : Option CompileFault) × Defines query before defines fault
defines_some query before [] all = (None, none before)
defines_some query before ((name, tree) ∷ rest) all =
    named (defined_fault before name (defined query name)) refl (defines_some query (before ++ name.text ∷ []) rest (All-tail DefineTested (name, tree) rest all))
  where
    tested : (fault : Option CompileFault) → defined_fault before name (defined query name) ≡ None → Tests (scope_of query (defined query name)) tree fault
        → (others : Option CompileFault) × Defines query (before ++ name.text ∷ []) rest others → (fault : Option CompileFault) × Defines query before ((name, tree) ∷ rest) fault
    tested (Some fault) e d others = (Some fault, faulty before name tree rest fault e d)
    tested None e d others = (others.0, fine before name tree rest others.0 e d others.1)

    named : (found : Option CompileFault) → defined_fault before name (defined query name) ≡ found
        → (others : Option CompileFault) × Defines query (before ++ name.text ∷ []) rest others → (fault : Option CompileFault) × Defines query before ((name, tree) ∷ rest) fault
    named (Some fault) e others = (Some fault, misnamed before name tree rest fault e)
    named None e others = let d = All-head DefineTested (name, tree) rest all (scope_of query (defined query name)) in tested d.0 e d.1 others

abbrev Opened : QueryOpening → Type 0
Opened opening = (query : Query) → (fault : Option CompileFault) × OpeningFault query opening fault

when_is : (opening : QueryOpening) (pred : Tree) → opening ≡ o.When pred → Tested pred → Opened opening
when_is opening pred is tested = subst Opened (sym is) (λ query. tested (scope_of query None))

every_is : (step : ℕ) (unit : Word) (span : Span) → Opened (o.Every step unit span)
every_is step unit span query = ((if step_is_fine query.length.0 query.length.1 step unit then None else Some (f.BadWindow span)), refl)

opening : (room : ℕ) (tokens : List Token) (opening : QueryOpening) → g.Opening room tokens opening → Opened opening
opening room tokens opened d = subst Opened (sym d.is) (of d.of.1 d.phrase.back d.phrase.right)
  where
    of : (x : QueryOpening) (ts : List Token) → Either g.Every (Built (λ tokens p. o.When p) (g.After m.When (g.Pred room))) ts x → Opened x
    of x ts (left e) = subst Opened (sym e.is) (every_is e.of.0 e.of.1 (span ts))
    of x ts (right e) = when_is x e.of e.is (subst Tested (sym e.phrase.is) (pred room e.phrase.phrase.back e.phrase.of.1 e.phrase.phrase.right))

-- ---- the whole

some_then : (P Q : Option CompileFault → Type 0) → (a : Option CompileFault) × P a → (b : Option CompileFault) × Q b → (c : Option CompileFault) × Then P Q c
some_then P Q (Some fault, p) q = (Some fault, stops fault p)
some_then P Q (None, p) (b, q) = (b, goes b p q)

some_found : (found : Option CompileFault) → (a : Option CompileFault) × Finds found a
some_found found = (found, refl)

-- the checks find a fault in a query that a text has, or that there is none
pub some_verdict : (text : List ℕ) (query : Query) → IsQuery text query → (found : Option CompileFault) × Checks query found
some_verdict text query is =
    let d = is.derives in
    let clauses = d.phrase.right.right.right in
    let defines : AllTested query.defines = subst (λ q. AllTested q.defines) (sym d.is) (defined_all 64 clauses.front d.of.1.1.1.0 clauses.left) in
    let opens : Opened query.opening = subst (λ q. Opened q.opening) (sym d.is) (opening 64 clauses.right.right.front d.of.1.1.1.1.1.0 clauses.right.right.left) in
    some_then _ _ (some_found (columns_fault [] query.columns)) (some_then _ _ (some_found (time_fault query.columns query.time)) (some_then _ _ (some_found (elements_fault query))
    (some_then _ _ (defines_some query [] query.defines defines) (some_then _ _ (some_found (length_fault query)) (some_then _ _ (opens query) (some_found (consume_fault query query.consume)))))))
