-- What the compiler's functions answer of the parts of an expression or a predicate.
use Rattle.std.specs.Prelude.{◌≡◌, ◌≢◌, ℕ, ℤ, ◌+◌, ◌-◌, ◌*◌, max, ◌^◌, ◌<◌, ◌≤◌, ◌+ℤ◌, ◌-ℤ◌, ◌*ℤ◌, pos, Bool, ◌&&◌, ◌||◌, not, List, Option, Some, None, Result, Ok, Err, length, map, slice_get, nat_le, if◌then◌else◌}
use Rattle.sp_lex.specs.declared.token.Span.{Span}
use Rattle.sp_plan.specs.declared.event.Event.{Event}
use Rattle.sp_plan.specs.declared.plan.Expr.{Expr}
use Rattle.sp_plan.specs.declared.plan.Pred.{Pred}
use Rattle.sp_plan.specs.Bounds.{bound, greatest, StaysWithin, PredWithin}
use Rattle.sp_plan.specs.Comparable.{Readable, HasScale, IsComparable}
use Rattle.sp_plan.specs.Texts.{symbol_of}
use Rattle.sp_plan.specs.Values.{BoundEvents, value, holds, column_of, earlier_column, last_bound}
use Rattle.sp_query.specs.declared.query.QueryColumn.{QueryColumn}
use Rattle.sp_query.specs.declared.tree.Tree.{Tree, out-Tree}
use Rattle.sp_query.specs.declared.tree.Node.{Node}
use Rattle.sp_query.specs.declared.tree.Node.TheVariants as n
use Rattle.sp_compile.specs.declared.arithmetic.Scaled.{Scaled}
use Rattle.sp_compile.specs.declared.fault.CompileFault.{CompileFault}
use Rattle.sp_compile.specs.declared.fault.CompileFault.TheVariants as f
use Rattle.sp_compile.specs.declared.sort.Sort.{Sort}
use Rattle.sp_compile.specs.declared.sort.Sort.TheVariants as s
use Rattle.sp_compile.specs.Scopes.{Scope, column_place, name_place, binding_from}
use Rattle.sp_compile.specs.Sorts.{Verdict, known_sort, sum_sort, product_sort, negative_sort, operator_sort}
use Rattle.sp_compile.specs.Meaning.{Datum, number, text, datum_of, combined, negative}
use Rattle.sp_compile.specs.Answers.{datum, IsBounded, HasSort, ReadsEarlier, bound_names}
use Rattle.sp_compile.specs.Stands.{plan_column}

-- a bound, if no value may be greater
abbrev pub within_limit : ℕ → Option ℕ
within_limit n = if nat_le n greatest then Some n else None

-- the bound of a sum of numbers of these bounds, if no value may be greater
abbrev pub limit_of_sum : Option ℕ → Option ℕ → Option ℕ
limit_of_sum (Some bound) (Some more) = within_limit (bound + more)
limit_of_sum _ _ = None

-- a number of at most 36 decimals, or a text
abbrev pub IsScaled : Sort → Type 0
IsScaled s.Text = Unit {0}
IsScaled (s.Number scale bound) = scale ≤ 36

-- The sort is a number of this scale and bound, with at most 36 decimals.
pub record IsNumberOf (one : Scaled) (sort : Sort) : Type 0 where
  pub is : sort ≡ s.Number one.scale one.bound
  pub few : one.scale ≤ 36

-- two numbers, or the fault that sums and products of other things have
abbrev pub NumbersAnswer : Span → Sort → Sort → Result (Scaled × Scaled) CompileFault → Type 0
NumbersAnswer span left right (Ok p) = IsNumberOf p.0 left × IsNumberOf p.1 right
NumbersAnswer span left right (Err fault) = (product_sort span left right ≡ Err fault) × (sum_sort span left right ≡ Err fault)

-- how many decimals more two numbers get for a sum
abbrev pub raises : Sort → Sort → ℕ × ℕ
raises (s.Number scale bound) (s.Number other more) = (max scale other - scale, max scale other - other)
raises _ _ = (0, 0)

-- An expression that has this sort, and stays within bounds.
pub record IsSound (p : Expr × Sort) : Type 0 where
  pub bounded : IsBounded p.0 p.1
  pub within : StaysWithin p.0

-- what an expression of some sort comes to
abbrev pub comes_to : Expr × Sort → Event → BoundEvents → Datum
comes_to p event bound = datum p.1 (value p.0 event bound)

-- each of two expressions is of its sort
abbrev pub BothSorted : Expr × Sort → Expr × Sort → Readable → Type 0
BothSorted left right r = HasSort r left.0 left.1 × HasSort r right.0 right.1

-- neither of two expressions reads an event at hand
abbrev pub BothEarlier : Expr × Sort → Expr × Sort → Type 0
BothEarlier left right = ReadsEarlier left.0 × ReadsEarlier right.0

-- whatever else holds
abbrev pub Anyway : Type 0
Anyway = Unit {0}

-- An expression with the sort of this verdict, which comes to these data; it is of its sort where its parts are of theirs, and reads no
-- event at hand where that is so.
pub record Made (verdict : Verdict) (meant : Event → BoundEvents → Option Datum) (parts : Readable → Type 0) (without : Type 0) (p : Expr × Sort) : Type 0 where
  pub sort : verdict ≡ Ok p.1
  pub sound : IsSound p
  pub comes : (event : Event) (bound : BoundEvents) → meant event bound ≡ Some (comes_to p event bound)
  pub sorted : (r : Readable) → parts r → HasSort r p.0 p.1
  pub reads : without → ReadsEarlier p.0

-- the verdict is a fault; want of memory says nothing
abbrev pub Refused : Verdict → CompileFault → Type 0
Refused verdict f.Memory = Unit {0}
Refused verdict fault = verdict ≡ Err fault

-- such an expression, or the verdict's fault
abbrev pub MadeAnswer : Verdict → (Event → BoundEvents → Option Datum) → (Readable → Type 0) → Type 0 → Result (Expr × Sort) CompileFault → Type 0
MadeAnswer verdict meant parts without (Ok p) = Made verdict meant parts without p
MadeAnswer verdict meant parts without (Err fault) = Refused verdict fault

-- A number with more decimals.
pub record IsRaised (expr : Expr) (by : ℕ) (raised : Expr) : Type 0 where
  pub within : StaysWithin raised
  pub bounded : bound raised ≡ bound expr * 10 ^ by
  pub raises : (event : Event) (bound : BoundEvents) → value raised event bound ≡ value expr event bound *ℤ pos (10 ^ by)
  pub scaled : (r : Readable) (scale : ℕ) → HasScale r expr scale → HasScale r raised (scale + by)
  pub reads : ReadsEarlier expr → ReadsEarlier raised

-- a number with more decimals, or want of memory
abbrev pub RaisedAnswer : Expr → ℕ → Result Expr CompileFault → Type 0
RaisedAnswer expr by (Ok raised) = IsRaised expr by raised
RaisedAnswer expr by (Err fault) = fault ≡ f.Memory

-- a number of this scale and this bound
abbrev pub IsNumber : ℕ → ℕ → Sort → Type 0
IsNumber scale most sort = (scale ≤ 36) × (sort ≡ s.Number scale most)

-- a side of a comparison, raised; or one that may be too great
abbrev pub SideAnswer : Span → Expr → ℕ → Result Expr CompileFault → Type 0
SideAnswer span expr by (Ok raised) = (bound expr * 10 ^ by ≤ greatest) × IsRaised expr by raised
SideAnswer span expr by (Err f.Memory) = Unit {0}
SideAnswer span expr by (Err fault) = (greatest < bound expr * 10 ^ by) × (fault ≡ f.TooWide span)

-- Two numbers at the greater of their scales, with the sort of their sum.
pub record Aligned (span : Span) (left right : Expr × Sort) (one other : Expr) (all : Sort) : Type 0 where
  pub sort : sum_sort span left.1 right.1 ≡ Ok all
  pub scale : ℕ
  pub number : IsNumber scale (bound one + bound other) all
  pub within : bound one + bound other ≤ greatest
  pub within_one : StaysWithin one
  pub within_other : StaysWithin other
  pub sums : (event : Event) (bound : BoundEvents) → combined n.Add (comes_to left event bound) (comes_to right event bound) ≡ Some (datum all (value one event bound +ℤ value other event bound))
  pub differences : (event : Event) (bound : BoundEvents) → combined n.Sub (comes_to left event bound) (comes_to right event bound) ≡ Some (datum all (value one event bound -ℤ value other event bound))
  pub sorted : (r : Readable) → BothSorted left right r → HasScale r one scale × HasScale r other scale
  pub reads : BothEarlier left right → ReadsEarlier one × ReadsEarlier other

-- two such numbers, or the fault of their sum
abbrev pub AlignedAnswer : Span → Expr × Sort → Expr × Sort → Result (Expr × Expr × Sort) CompileFault → Type 0
AlignedAnswer span left right (Ok p) = Aligned span left right p.0 p.1 p.2
AlignedAnswer span left right (Err fault) = Refused (sum_sort span left.1 right.1) fault

-- A predicate without this fault, which holds exactly where this is true; it compares like with like where its parts are so.
pub record MadePred (fault : Option CompileFault) (meant : Event → BoundEvents → Option Bool) (parts : Readable → Type 0) (pred : Pred) : Type 0 where
  pub none : fault ≡ None
  pub within : PredWithin pred
  pub holds_as : (event : Event) (bound : BoundEvents) → meant event bound ≡ Some (holds pred event bound)
  pub comparable : (r : Readable) → parts r → IsComparable r pred

-- the fault is this one; want of memory says nothing
abbrev pub Found : Option CompileFault → CompileFault → Type 0
Found found f.Memory = Unit {0}
Found found fault = found ≡ Some fault

-- such a predicate, or the fault
abbrev pub MadePredAnswer : Option CompileFault → (Event → BoundEvents → Option Bool) → (Readable → Type 0) → Result Pred CompileFault → Type 0
MadePredAnswer found meant parts (Ok pred) = MadePred found meant parts pred
MadePredAnswer found meant parts (Err fault) = Found found fault

-- each of two predicates compares like with like
abbrev pub BothComparable : Pred → Pred → Readable → Type 0
BothComparable left right r = IsComparable r left × IsComparable r right

-- what a predicate of two others holds as
abbrev pub joined : Node → Bool → Bool → Bool
joined n.Or one other = one || other
joined _ one other = one && other

-- ---- numbers, texts and columns

-- a number of the query, in units of its scale
abbrev pub NumberAnswer : ℕ → ℕ → Result (Expr × Sort) CompileFault → Type 0
NumberAnswer units scale result = MadeAnswer (Ok (s.Number scale units)) (λ event bound. Some (number (pos units) scale)) (λ r. Unit {0}) Anyway result

-- a text of the query, by its number among the texts
abbrev pub TextAnswer : Scope → List (List ℕ) → Span → List ℕ → Result (Expr × Sort) CompileFault → Type 0
TextAnswer scope texts span t result = MadeAnswer (known_sort scope span (n.Literal t) s.Text) (λ event bound. Some (text (pos (symbol_of texts t)))) (λ r. r.texts ≡ length texts) Anyway result

-- what may be read has the columns of this scope, and those of its names that are of earlier elements and aren't negated
abbrev pub Reads : Scope → Readable → Type 0
Reads scope r = (r.columns ≡ map plan_column scope.columns) × (r.names ≡ bound_names scope.names scope.here) × (r.binding ≡ binding_from 0 scope.names)

-- what a column comes to, by what stands in it
abbrev pub column_datum : Option QueryColumn → ℤ → Option Datum
column_datum None value = None
column_datum (Some column) value = Some (datum_of column.kind column.digits value)

-- what a column that is at a place comes to, by what stands there
abbrev pub placed_datum : List QueryColumn → Option ℕ → (ℕ → ℤ) → Option Datum
placed_datum columns None at = None
placed_datum columns (Some place) at = column_datum (slice_get columns place) (at place)

-- what a column of the event at hand comes to
abbrev pub own_datum : Scope → List ℕ → Event → BoundEvents → Option Datum
own_datum scope t event bound = placed_datum scope.columns (column_place scope.columns t) (λ place. column_of place event)

-- what a column of the last event that is bound to a name comes to, by the name's number and the column's place
abbrev pub bound_datum : List QueryColumn → Option ℕ → Option ℕ → BoundEvents → Option Datum
bound_datum columns None place bound = None
bound_datum columns (Some name) place bound = placed_datum columns place (λ place. earlier_column (last_bound name bound) place)

-- the same by the name and the column's name
abbrev pub earlier_datum : Scope → List ℕ → List ℕ → Event → BoundEvents → Option Datum
earlier_datum scope name t event bound = bound_datum scope.columns (name_place scope.names name) (column_place scope.columns t) bound

-- ---- both sides of an operator

-- the first fault of two sides, of which the other is not want of memory
abbrev pub FirstFault : {A : Type 0} → Result A CompileFault → Result A CompileFault → CompileFault → Type 0
FirstFault (Ok one) (Ok other) found = ⊥
FirstFault (Ok one) (Err fault) found = found ≡ fault
FirstFault (Err fault) (Ok other) found = found ≡ fault
FirstFault (Err fault) (Err other) found = (found ≡ fault) × (other ≢ f.Memory)

-- what both sides are, or a fault; want of memory says nothing
abbrev pub BothAnswer : {A : Type 0} → Result A CompileFault → Result A CompileFault → Result (A × A) CompileFault → Type 0
BothAnswer left right (Ok p) = (left ≡ Ok p.0) × (right ≡ Ok p.1)
BothAnswer left right (Err fault) = fault ≢ f.Memory → FirstFault left right fault

-- minus an operand, or the operand's fault
abbrev pub NegativeAnswer : Span → Result (Expr × Sort) CompileFault → Result (Expr × Sort) CompileFault → Type 0
NegativeAnswer span (Ok inner) result = MadeAnswer (negative_sort span inner.1) (λ event bound. negative (comes_to inner event bound)) (λ r. HasSort r inner.0 inner.1) (ReadsEarlier inner.0) result
NegativeAnswer span (Err fault) result = result ≡ Err fault

-- what the operator of this tree makes of both sides, or the first fault
abbrev pub OperationAnswer : Tree → Result (Expr × Sort) CompileFault → Result (Expr × Sort) CompileFault → Result (Expr × Sort) CompileFault → Type 0
OperationAnswer t (Ok one) (Ok other) result = MadeAnswer (operator_sort (out-Tree t).node (out-Tree t).span one.1 other.1) (λ event bound. combined (out-Tree t).node (comes_to one event bound) (comes_to other event bound)) (BothSorted one other) (BothEarlier one other) result
OperationAnswer t left right (Ok p) = ⊥
OperationAnswer t left right (Err fault) = fault ≢ f.Memory → FirstFault left right fault

-- what an AND or OR makes of two predicates, or the first fault
abbrev pub JointAnswer : Node → Result Pred CompileFault → Result Pred CompileFault → Result Pred CompileFault → Type 0
JointAnswer node (Ok one) (Ok other) result = MadePredAnswer None (λ event bound. Some (joined node (holds one event bound) (holds other event bound))) (BothComparable one other) result
JointAnswer node left right (Ok pred) = ⊥
JointAnswer node left right (Err fault) = fault ≢ f.Memory → FirstFault left right fault

-- not a predicate, or its fault
abbrev pub NegationAnswer : Result Pred CompileFault → Result Pred CompileFault → Type 0
NegationAnswer (Ok inner) result = MadePredAnswer None (λ event bound. Some (not (holds inner event bound))) (λ r. IsComparable r inner) result
NegationAnswer (Err fault) result = result ≡ Err fault
