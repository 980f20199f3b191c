-- What the compiler's functions answer.
use Rattle.std.specs.Prelude.{◌≡◌, ℕ, ℤ, ◌≤◌, true, false, List, [], Option, Some, None, Result, Ok, Err, length, map, count_by, nat_lt}
use Rattle.std.specs.List.{All}
use Rattle.sp_lex.specs.declared.token.Word.TheVariants as w
use Rattle.sp_plan.specs.declared.event.Event.{Event}
use Rattle.sp_plan.specs.declared.plan.Expr.{Expr}
use Rattle.sp_plan.specs.declared.plan.Expr as e
use Rattle.sp_plan.specs.declared.plan.Pred.{Pred}
use Rattle.sp_plan.specs.Bounds.{bound, StaysWithin, PredWithin}
use Rattle.sp_plan.specs.Comparable.{Readable, IsText, HasScale, IsComparable}
use Rattle.sp_plan.specs.Values.{BoundEvents, value, holds}
use Rattle.sp_query.specs.declared.tree.Tree.{Tree}
use Rattle.sp_query.specs.declared.query.QueryColumn.{QueryColumn}
use Rattle.sp_query.specs.declared.query.Query.{Query}
use Rattle.sp_compile.specs.declared.fault.CompileFault.{CompileFault}
use Rattle.sp_compile.specs.declared.fault.CompileFault.TheVariants as f
use Rattle.sp_compile.specs.declared.sort.Sort.{Sort}
use Rattle.sp_compile.specs.declared.sort.Sort.TheVariants as s
use Rattle.sp_compile.specs.Scopes.{Scope, AreOrdered, pattern_names, binding_from, PatternName}
use Rattle.sp_compile.specs.Checks.{Types, Tests}
use Rattle.sp_compile.specs.Meaning.{Datum, number, text, Means, Truth}
use Rattle.sp_compile.specs.Stands.{plan_column}

-- the scope of a query's predicate
abbrev pub scope_in : Query → Option ℕ → Scope
scope_in query here = record { columns = query.columns; names = pattern_names query; here = here; at_hand = true; known = [] }

-- What the checks of columns and names have shown before predicates are looked at: there are few of them, kinds have few decimals,
-- and names stand in the order of their elements.
pub record AreNamed (listed : List QueryColumn) (named : List PatternName) : Type 0 where
  pub columns : length listed ≤ 64
  pub digits : All (λ column. column.kind ≡ w.Dec → column.digits ≤ 6) listed
  pub names : length named ≤ 32
  pub ordered : AreOrdered named

abbrev pub IsNamed : Query → Type 0
IsNamed query = AreNamed query.columns (pattern_names query)

-- what a value of a sort is
abbrev pub datum : Sort → ℤ → Datum
datum s.Text value = text value
datum (s.Number scale bound) value = number value scale

-- a number's bound is the expression's, and its scale at most 36
abbrev pub IsBounded : Expr → Sort → Type 0
IsBounded expr s.Text = Unit {0}
IsBounded expr (s.Number scale most) = (bound expr ≡ most) × (scale ≤ 36)

-- how many names are of elements before this one
abbrev pub bound_names : List PatternName → Option ℕ → ℕ
bound_names names None = 0
bound_names names (Some here) = count_by (λ name. nat_lt name.element here) names

-- what a predicate of this scope may read of the plan
abbrev pub readable_in : Scope → List (List ℕ) → Readable
readable_in scope texts = record { columns = map plan_column scope.columns; texts = length texts; names = bound_names scope.names scope.here; binding = binding_from 0 scope.names }

-- an expression of the plan is of this sort
abbrev pub HasSort : Readable → Expr → Sort → Type 0
HasSort r expr s.Text = IsText r expr
HasSort r expr (s.Number scale most) = HasScale r expr scale

-- No column of an event at hand is read.
abbrev pub ReadsEarlier : Expr → Type 0
ReadsEarlier (e.Literal n) = Unit {0}
ReadsEarlier (e.Word s) = Unit {0}
ReadsEarlier (e.Column place) = ⊥
ReadsEarlier (e.Earlier name place) = Unit {0}
ReadsEarlier (e.Raise' by p inner) = ReadsEarlier inner
ReadsEarlier (e.Minus' p inner) = ReadsEarlier inner
ReadsEarlier (e.Add' p left q right) = ReadsEarlier left × ReadsEarlier right
ReadsEarlier (e.Sub' p left q right) = ReadsEarlier left × ReadsEarlier right
ReadsEarlier (e.Mul' p left q right) = ReadsEarlier left × ReadsEarlier right

-- The expression has the sort that the tree has, stays within bounds, and comes to what the tree means. Where no event is at hand, it reads none.
pub record Compiled (scope : Scope) (texts : List (List ℕ)) (tree : Tree) (expr : Expr) (sort : Sort) : Type 0 where
  pub types : Types scope tree (Ok sort)
  pub bounded : IsBounded expr sort
  pub within : StaysWithin expr
  pub sorted : HasSort (readable_in scope texts) expr sort
  pub reads : scope.at_hand ≡ false → ReadsEarlier expr
  pub means : (event : Event) (bound : BoundEvents) → Means scope texts event bound tree (datum sort (value expr event bound))

abbrev pub Untyped : Scope → Tree → CompileFault → Type 0
Untyped scope tree f.Memory = Unit {0}
Untyped scope tree fault = Types scope tree (Err fault)

-- what is answered of an expression: want of memory says nothing
abbrev pub ExprAnswer : Scope → List (List ℕ) → Tree → Result (Expr × Sort) CompileFault → Type 0
ExprAnswer scope texts tree (Ok p) = Compiled scope texts tree p.0 p.1
ExprAnswer scope texts tree (Err fault) = Untyped scope tree fault

-- The predicate has no fault, stays within bounds, and holds exactly where the tree is true.
pub record CompiledPred (scope : Scope) (texts : List (List ℕ)) (tree : Tree) (pred : Pred) : Type 0 where
  pub tests : Tests scope tree None
  pub within : PredWithin pred
  pub comparable : IsComparable (readable_in scope texts) pred
  pub holds_as : (event : Event) (bound : BoundEvents) → Truth scope texts event bound tree (holds pred event bound)

abbrev pub Faulty : Scope → Tree → CompileFault → Type 0
Faulty scope tree f.Memory = Unit {0}
Faulty scope tree fault = Tests scope tree (Some fault)

abbrev pub PredAnswer : Scope → List (List ℕ) → Tree → Result Pred CompileFault → Type 0
PredAnswer scope texts tree (Ok pred) = CompiledPred scope texts tree pred
PredAnswer scope texts tree (Err fault) = Faulty scope tree fault
