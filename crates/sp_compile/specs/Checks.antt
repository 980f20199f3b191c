-- In which order a query is checked, and which fault is the first.
use Rattle.std.specs.Prelude.{◌≡◌, ℕ, Bool, true, false, ◌&&◌, not, nat_le, List, [], ◌∷◌, ◌++◌, length, Option, Some, None, Ok, is_some, if◌then◌else◌}
use Rattle.std.specs.List.{list_any, last_or}
use Rattle.std.specs.Str.{bytes_eq}
use Rattle.sp_base.specs.Limits.{number_limit, length_limit, step_limit}
use Rattle.sp_lex.specs.declared.token.Span.{Span}
use Rattle.sp_lex.specs.declared.token.Word.{Word}
use Rattle.sp_lex.specs.declared.token.Word.TheVariants as w
use Rattle.sp_plan.specs.declared.plan.Compare.{Compare}
use Rattle.sp_plan.specs.Windows.{windows_per_event}
use Rattle.sp_query.specs.declared.tree.Tree.{Tree, out-Tree}
use Rattle.sp_query.specs.declared.tree.Node.{Node}
use Rattle.sp_query.specs.declared.tree.Node.TheVariants as n
use Rattle.sp_query.specs.declared.query.Ident.{Ident}
use Rattle.sp_query.specs.declared.query.Query.{Query}
use Rattle.sp_query.specs.declared.query.QueryColumn.{QueryColumn}
use Rattle.sp_query.specs.declared.query.QueryElement.{QueryElement}
use Rattle.sp_query.specs.declared.query.QueryElement.TheVariants as e
use Rattle.sp_query.specs.declared.query.QueryOpening.{QueryOpening}
use Rattle.sp_query.specs.declared.query.QueryOpening.TheVariants as o
use Rattle.sp_query.specs.declared.query.QueryConsume.{QueryConsume}
use Rattle.sp_query.specs.declared.query.QueryConsume.TheVariants as u
use Rattle.sp_compile.specs.declared.fault.CompileFault.{CompileFault}
use Rattle.sp_compile.specs.declared.fault.CompileFault.TheVariants as f
use Rattle.sp_compile.specs.declared.sort.Sort.{Sort}
use Rattle.sp_compile.specs.Scopes.{Scope, pattern_names, column_place, name_place, PatternName}
use Rattle.sp_compile.specs.Sorts.{Verdict, first, column_there, name_there, own_sort, earlier_sort, constant_sort, known_sort, is_arithmetic, binary_sort, minus_sort, test_fault}

-- ---- expressions and predicates: parts before the whole, left before right

abbrev pub span_of : Tree → Span
span_of t = (out-Tree t).span

-- The sort of an expression, or the first fault in it.
pub data Types (scope : Scope) : Tree → Verdict → Type 0 where
  constant : (t : Tree) (sort : Sort) (verdict : Verdict) → constant_sort (out-Tree t).node ≡ Some sort → verdict ≡ known_sort scope (span_of t) (out-Tree t).node sort → Types scope t verdict
  own : (t : Tree) (text : List ℕ) (verdict : Verdict) → (out-Tree t).node ≡ n.Own text → verdict ≡ own_sort scope (span_of t) text → Types scope t verdict
  earlier : (t : Tree) (name text : List ℕ) (verdict : Verdict) → (out-Tree t).node ≡ n.Earlier name text → verdict ≡ earlier_sort scope (span_of t) name text → Types scope t verdict
  minus : (t part : Tree) (inner verdict : Verdict) → (out-Tree t).node ≡ n.Minus → (out-Tree t).parts ≡ part ∷ [] → Types scope part inner → verdict ≡ minus_sort (span_of t) inner → Types scope t verdict
  binary : (t left right : Tree) (one other verdict : Verdict) → is_arithmetic (out-Tree t).node ≡ true → (out-Tree t).parts ≡ left ∷ right ∷ [] → Types scope left one → Types scope right other
      → verdict ≡ binary_sort (out-Tree t).node (span_of t) one other → Types scope t verdict

abbrev pub is_junction : Node → Bool
is_junction n.And = true
is_junction n.Or = true
is_junction _ = false

-- The first fault in a predicate, if there is one.
pub data Tests (scope : Scope) : Tree → Option CompileFault → Type 0 where
  compared : (t left right : Tree) (by : Compare) (one other : Verdict) (fault : Option CompileFault) → (out-Tree t).node ≡ n.Test by → (out-Tree t).parts ≡ left ∷ right ∷ [] → Types scope left one → Types scope right other
      → fault ≡ test_fault by (span_of t) (span_of left) (span_of right) one other → Tests scope t fault
  joined : (t left right : Tree) (one other fault : Option CompileFault) → is_junction (out-Tree t).node ≡ true → (out-Tree t).parts ≡ left ∷ right ∷ [] → Tests scope left one → Tests scope right other
      → fault ≡ first one other → Tests scope t fault
  denied : (t part : Tree) (fault : Option CompileFault) → (out-Tree t).node ≡ n.Not → (out-Tree t).parts ≡ part ∷ [] → Tests scope part fault → Tests scope t fault

-- ---- clauses, each from the left

-- whether a text is among these
abbrev pub is_among : List (List ℕ) → List ℕ → Bool
is_among texts text = list_any (bytes_eq text) texts

abbrev pub is_decimal : Word → Bool
is_decimal w.Dec = true
is_decimal _ = false

abbrev pub is_whole : Word → Bool
is_whole w.Int = true
is_whole _ = false

-- behind columns of these names
abbrev pub column_fault : List (List ℕ) → QueryColumn → Option CompileFault
column_fault before column =
    if nat_le 64 (length before) then Some (f.TooMany column.name.span)
    else if is_among before column.name.text then Some (f.Twice column.name.span)
    else if is_decimal column.kind && not (nat_le 1 column.digits && nat_le column.digits 6) then Some (f.WrongKind column.span)
    else None

-- columns from the left, behind those of these names
abbrev pub columns_fault : List (List ℕ) → List QueryColumn → Option CompileFault
columns_fault before [] = None
columns_fault before (column ∷ columns) = first (column_fault before column) (columns_fault (before ++ column.name.text ∷ []) columns)

abbrev pub time_column_fault : Ident → Option QueryColumn → Option CompileFault
time_column_fault name None = Some (f.Unknown name.span)
time_column_fault name (Some column) = if is_whole column.kind then None else Some (f.WrongKind name.span)

abbrev pub time_fault : List QueryColumn → Option Ident → Option CompileFault
time_fault columns None = None
time_fault columns (Some name) = time_column_fault name (column_there columns (column_place columns name.text))

abbrev pub name_fault : List (List ℕ) → Ident → Option CompileFault
name_fault before name =
    if nat_le 32 (length before) then Some (f.TooMany name.span)
    else if is_among before name.text then Some (f.Twice name.span)
    else None

-- names of the pattern from the left, behind these
abbrev pub names_fault : List (List ℕ) → List PatternName → Option CompileFault
names_fault before [] = None
names_fault before (name ∷ names) = first (name_fault before name.name) (names_fault (before ++ name.name.text ∷ []) names)

-- of elements of which the first is negated
abbrev pub first_fault : List QueryElement → Option CompileFault
first_fault (e.Never name span ∷ elements) = Some (f.NeverEnds span)
first_fault _ = None

abbrev pub last_fault : Option QueryElement → Option CompileFault
last_fault (Some (e.Plus name span)) = Some (f.PlusLast span)
last_fault (Some (e.Never name span)) = Some (f.NeverEnds span)
last_fault _ = None

-- the first element, and then the last
abbrev pub ends_fault : List QueryElement → Option CompileFault
ends_fault elements = first (first_fault elements) (last_fault (last_or None elements))

-- the names, and then the elements at both ends
abbrev pub elements_fault : Query → Option CompileFault
elements_fault query = first (names_fault [] (pattern_names query)) (ends_fault query.elements)

-- the scope of the predicate of a name that is there
abbrev pub scope_of : Query → Option PatternName → Scope
scope_of query None = record { columns = query.columns; names = pattern_names query; here = None; at_hand = true; known = [] }
scope_of query (Some name) = record { columns = query.columns; names = pattern_names query; here = Some name.element; at_hand = true; known = [] }

abbrev pub defined_fault : List (List ℕ) → Ident → Option PatternName → Option CompileFault
defined_fault before name None = Some (f.Unknown name.span)
defined_fault before name (Some there) = if is_among before name.text then Some (f.Twice name.span) else None

-- the name of the pattern that a definition is of
abbrev pub defined : Query → Ident → Option PatternName
defined query name = name_there (pattern_names query) (name_place (pattern_names query) name.text)

-- Definitions from the left, behind those of these names: first the name, then its predicate.
pub data Defines (query : Query) : List (List ℕ) → List (Ident × Tree) → Option CompileFault → Type 0 where
  none : (before : List (List ℕ)) → Defines query before [] None
  misnamed : (before : List (List ℕ)) (name : Ident) (pred : Tree) (rest : List (Ident × Tree)) (fault : CompileFault) → defined_fault before name (defined query name) ≡ Some fault → Defines query before ((name, pred) ∷ rest) (Some fault)
  faulty : (before : List (List ℕ)) (name : Ident) (pred : Tree) (rest : List (Ident × Tree)) (fault : CompileFault) → defined_fault before name (defined query name) ≡ None
      → Tests (scope_of query (defined query name)) pred (Some fault) → Defines query before ((name, pred) ∷ rest) (Some fault)
  fine : (before : List (List ℕ)) (name : Ident) (pred : Tree) (rest : List (Ident × Tree)) (fault : Option CompileFault) → defined_fault before name (defined query name) ≡ None
      → Tests (scope_of query (defined query name)) pred None → Defines query (before ++ name.text ∷ []) rest fault → Defines query before ((name, pred) ∷ rest) fault

-- a number of 1 up to this limit
abbrev pub is_within : ℕ → ℕ → Bool
is_within number limit = nat_le 1 number && nat_le number limit

abbrev pub length_is_fine : Option Ident → ℕ → Word → Bool
length_is_fine time number w.Time = is_some time && is_within number number_limit
length_is_fine time number _ = is_within number length_limit

abbrev pub length_fault : Query → Option CompileFault
length_fault query = if length_is_fine query.time query.length.0 query.length.1 then None else Some (f.BadWindow query.length.2)

-- whether a step keeps its limits: with a length of the same unit an event is in at most 64 windows, and a step in time goes with a length in time
abbrev pub step_is_fine : ℕ → Word → ℕ → Word → Bool
step_is_fine size w.Time step w.Time = is_within step number_limit && nat_le (windows_per_event size step) 64
step_is_fine size _ step w.Time = false
step_is_fine size w.Time step _ = is_within step step_limit
step_is_fine size _ step _ = is_within step step_limit && nat_le (windows_per_event size step) 64

-- The opening's fault, if there is one.
abbrev pub OpeningFault : Query → QueryOpening → Option CompileFault → Type 0
OpeningFault query (o.Every step unit span) fault = fault ≡ (if step_is_fine query.length.0 query.length.1 step unit then None else Some (f.BadWindow span))
OpeningFault query (o.When pred) fault = Tests (scope_of query None) pred fault

-- behind names of these texts, by the name of the pattern: it is there, isn't negated, and comes once
abbrev pub used_fault : List (List ℕ) → Ident → Option PatternName → Option CompileFault
used_fault before name None = Some (f.Unknown name.span)
used_fault before name (Some there) =
    if there.negated then Some (f.NeverBound name.span)
    else if is_among before name.text then Some (f.Twice name.span)
    else None

abbrev pub consumed_fault : Query → List (List ℕ) → Ident → Option CompileFault
consumed_fault query before name = used_fault before name (defined query name)

abbrev pub consumed_names_fault : Query → List (List ℕ) → List Ident → Option CompileFault
consumed_names_fault query before [] = None
consumed_names_fault query before (name ∷ names) = first (consumed_fault query before name) (consumed_names_fault query (before ++ name.text ∷ []) names)

abbrev pub consume_fault : Query → QueryConsume → Option CompileFault
consume_fault query (u.Names names) = consumed_names_fault query [] names
consume_fault query _ = None

-- ---- the whole

-- What one check finds; where it finds nothing, what the checks behind it find.
pub data Then (one others : Option CompileFault → Type 0) : Option CompileFault → Type 0 where
  stops : (fault : CompileFault) → one (Some fault) → Then one others (Some fault)
  goes : (fault : Option CompileFault) → one None → others fault → Then one others fault

-- a check that finds just this
abbrev pub Finds : Option CompileFault → Option CompileFault → Type 0
Finds found fault = fault ≡ found

-- The first fault of the query, or that it has none.
abbrev pub Checks : Query → Option CompileFault → Type 0
Checks query = Then (Finds (columns_fault [] query.columns)) (Then (Finds (time_fault query.columns query.time)) (Then (Finds (elements_fault query))
    (Then (Defines query [] query.defines) (Then (Finds (length_fault query)) (Then (OpeningFault query query.opening) (Finds (consume_fault query query.consume)))))))
