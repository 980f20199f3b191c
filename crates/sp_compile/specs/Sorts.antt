-- Of what sort an expression is, and which fault is found first.
use Rattle.std.specs.Prelude.{ℕ, ◌+◌, ◌-◌, ◌*◌, ◌^◌, max, Bool, true, false, ◌&&◌, ◌||◌, nat_le, nat_lt, List, Option, Some, None, Result, Ok, Err, slice_get, if◌then◌else◌}
use Rattle.std.specs.List.{list_any}
use Rattle.std.specs.Str.{bytes_eq}
use Rattle.sp_base.specs.Limits.{number_limit}
use Rattle.sp_lex.specs.declared.token.Span.{Span}
use Rattle.sp_lex.specs.declared.token.Word.{Word}
use Rattle.sp_lex.specs.declared.token.Word.TheVariants as w
use Rattle.sp_plan.specs.declared.plan.Compare.{Compare}
use Rattle.sp_plan.specs.declared.plan.Compare.TheVariants as c
use Rattle.sp_plan.specs.Bounds.{greatest}
use Rattle.sp_query.specs.declared.tree.Node.{Node}
use Rattle.sp_query.specs.declared.tree.Node.TheVariants as n
use Rattle.sp_query.specs.declared.query.QueryColumn.{QueryColumn}
use Rattle.sp_compile.specs.declared.fault.CompileFault.{CompileFault}
use Rattle.sp_compile.specs.declared.fault.CompileFault.TheVariants as f
use Rattle.sp_compile.specs.declared.sort.Sort.{Sort}
use Rattle.sp_compile.specs.declared.sort.Sort.TheVariants as s
use Rattle.sp_compile.specs.Scopes.{Scope, column_place, name_place, PatternName}

-- the sort of an expression, or the first fault in it
abbrev pub Verdict : Type 0
Verdict = Result Sort CompileFault

-- the first of two faults
abbrev pub first : Option CompileFault → Option CompileFault → Option CompileFault
first (Some fault) other = Some fault
first None other = other

-- a column's sort: numbers are at most 10^15 in magnitude
abbrev pub sort_of : Word → ℕ → Sort
sort_of w.Int digits = s.Number 0 number_limit
sort_of w.Dec digits = s.Number digits number_limit
sort_of _ digits = s.Text

abbrev pub column_sort : QueryColumn → Sort
column_sort column = sort_of column.kind column.digits

-- the sort of a column that is there
abbrev pub sort_there : Span → Option QueryColumn → Verdict
sort_there span None = Err (f.Unknown span)
sort_there span (Some column) = Ok (column_sort column)

-- the column of this place, if there is one
abbrev pub column_there : List QueryColumn → Option ℕ → Option QueryColumn
column_there columns None = None
column_there columns (Some place) = slice_get columns place

-- of a column of the event at hand, where one is
abbrev pub own_sort : Scope → Span → List ℕ → Verdict
own_sort scope span text =
    if scope.at_hand then sort_there span (column_there scope.columns (column_place scope.columns text))
    else Err (f.Unknown span)

-- whether the element of a name that is there is bound earlier
abbrev pub is_earlier : Option ℕ → Option PatternName → Bool
is_earlier None name = false
is_earlier (Some here) None = false
is_earlier (Some here) (Some name) = nat_lt name.element here

abbrev pub name_there : List PatternName → Option ℕ → Option PatternName
name_there names None = None
name_there names (Some place) = slice_get names place

-- a name that is there, not negated and of an earlier element, with a column that is there
abbrev pub earlier_there : Span → Option ℕ → Option PatternName → Option QueryColumn → Verdict
earlier_there span here None column = Err (f.Unknown span)
earlier_there span here (Some name) None = Err (f.Unknown span)
earlier_there span here (Some name) (Some column) =
    if name.negated then Err (f.NeverBound span)
    else if is_earlier here (Some name) then Ok (column_sort column)
    else Err (f.LateReference span)

abbrev pub earlier_in : Option ℕ → Scope → Span → List ℕ → List ℕ → Verdict
earlier_in None scope span name text = Err (f.LateReference span)
earlier_in (Some here) scope span name text =
    earlier_there span (Some here) (name_there scope.names (name_place scope.names name)) (column_there scope.columns (column_place scope.columns text))

-- Of a column of an event that is bound earlier. In the predicate of WHEN nothing is, whatever the names are.
abbrev pub earlier_sort : Scope → Span → List ℕ → List ℕ → Verdict
earlier_sort scope span name text = earlier_in scope.here scope span name text

-- the sort of a number or a text that stands in the query
abbrev pub constant_sort : Node → Option Sort
constant_sort (n.Whole x) = Some (s.Number 0 x)
constant_sort (n.Decimal units scale) = Some (s.Number scale units)
constant_sort (n.Literal text) = Some s.Text
constant_sort _ = None

-- whether a text is among these; a number needs not be
abbrev pub is_listed : List (List ℕ) → Node → Bool
is_listed texts (n.Literal text) = list_any (bytes_eq text) texts
is_listed texts _ = true

-- of a number or a text of this sort: a text is any where an event is at hand, and one of those known where none is
abbrev pub known_sort : Scope → Span → Node → Sort → Verdict
known_sort scope span node sort =
    if scope.at_hand || is_listed scope.known node then Ok sort
    else Err (f.Unknown span)

-- a number of this scale and this bound, if it is within limits
abbrev pub limited : Span → ℕ → ℕ → Verdict
limited span scale bound = if nat_le scale 36 && nat_le bound greatest then Ok (s.Number scale bound) else Err (f.TooWide span)

-- the bound of a number of one scale, raised to another
abbrev pub raised : ℕ → ℕ → ℕ → ℕ
raised scale to bound = bound * 10 ^ (to - scale)

-- a sum or a difference: both sides at the greater scale
abbrev pub sum_sort : Span → Sort → Sort → Verdict
sum_sort span (s.Number scale bound) (s.Number other more) = limited span (max scale other) (raised scale (max scale other) bound + raised other (max scale other) more)
sum_sort span _ _ = Err (f.WrongKind span)

abbrev pub product_sort : Span → Sort → Sort → Verdict
product_sort span (s.Number scale bound) (s.Number other more) = limited span (scale + other) (bound * more)
product_sort span _ _ = Err (f.WrongKind span)

abbrev pub is_arithmetic : Node → Bool
is_arithmetic n.Add = true
is_arithmetic n.Sub = true
is_arithmetic n.Mul = true
is_arithmetic _ = false

abbrev pub operator_sort : Node → Span → Sort → Sort → Verdict
operator_sort n.Mul span left right = product_sort span left right
operator_sort _ span left right = sum_sort span left right

-- the left side's fault, the right side's, or what the operator makes of both
abbrev pub binary_sort : Node → Span → Verdict → Verdict → Verdict
binary_sort node span (Err fault) right = Err fault
binary_sort node span (Ok left) (Err fault) = Err fault
binary_sort node span (Ok left) (Ok right) = operator_sort node span left right

abbrev pub negative_sort : Span → Sort → Verdict
negative_sort span s.Text = Err (f.WrongKind span)
negative_sort span (s.Number scale bound) = Ok (s.Number scale bound)

abbrev pub minus_sort : Span → Verdict → Verdict
minus_sort span (Err fault) = Err fault
minus_sort span (Ok sort) = negative_sort span sort

-- texts are equal or not, and in no order
abbrev pub is_equality : Compare → Bool
is_equality c.Equal = true
is_equality c.Unequal = true
is_equality _ = false

-- one side of a comparison, raised to the scale of the other
abbrev pub side_fault : Span → ℕ → ℕ → ℕ → Option CompileFault
side_fault span scale to bound = if nat_le (raised scale to bound) greatest then None else Some (f.TooWide span)

-- what a comparison of two sorts is wrong in, with the places of the whole and of its sides
abbrev pub sides_fault : Compare → Span → Span → Span → Sort → Sort → Option CompileFault
sides_fault by span left right (s.Number scale bound) (s.Number other more) =
    first (side_fault left scale (max scale other) bound) (side_fault right other (max scale other) more)
sides_fault by span left right s.Text s.Text = if is_equality by then None else Some (f.WrongKind span)
sides_fault by span left right _ _ = Some (f.WrongKind span)

abbrev pub test_fault : Compare → Span → Span → Span → Verdict → Verdict → Option CompileFault
test_fault by span left right (Err fault) other = Some fault
test_fault by span left right (Ok one) (Err fault) = Some fault
test_fault by span left right (Ok one) (Ok other) = sides_fault by span left right one other
