-- What the functions answer that compile items.
use Rattle.std.specs.Prelude.{◌≡◌, ◌⊎◌, ℕ, ◌-◌, ◌<◌, ◌≤◌, false, List, [], length, slice_get, Option, Some, None, Result, Ok, Err}
use Rattle.std.specs.Global.{Vec}
use Rattle.std.specs.List.{AllZip}
use Rattle.sp_lex.specs.declared.token.Span.{Span}
use Rattle.sp_plan.specs.declared.event.Event.{Event}
use Rattle.sp_plan.specs.declared.plan.Column.{Column}
use Rattle.sp_plan.specs.declared.plan.Expr.{Expr}
use Rattle.sp_plan.specs.declared.plan.Kind.{Kind}
use Rattle.sp_plan.specs.declared.plan.Plan.{Plan}
use Rattle.sp_plan.specs.declared.plan.Schema.{Schema}
use Rattle.sp_plan.specs.Bounds.{bound, StaysWithin}
use Rattle.sp_plan.specs.Comparable.{Readable}
use Rattle.sp_plan.specs.Values.{BoundEvents, value}
use Rattle.sp_query.specs.declared.tree.Tree.{Tree}
use Rattle.sp_compile.specs.declared.fault.CompileFault.{CompileFault}
use Rattle.sp_compile.specs.declared.fault.CompileFault.TheVariants as f
use Rattle.sp_compile.specs.declared.sort.Sort.{Sort}
use Rattle.sp_compile.specs.Answers.{HasSort, ReadsEarlier, readable_in}
use Rattle.sp_compile.specs.Checks.{Types, span_of}
use Rattle.sp_compile.specs.Parts.{Found, comes_to, IsRaised}
use Rattle.sp_compile.specs.Scopes.{Scope}
use Rattle.sp_compile.specs.Sorts.{Verdict}
use Rattle.sp_graph.specs.Returns.{AreReturns, IsOfKind}
use Rattle.sp_returns.specs.declared.item.Return.{Return}
use Rattle.sp_returns.specs.Scopes.{item_scope}
use Rattle.sp_returns.specs.Checks.{fits_fault, scaled_fault, verdict_fault, is_returned, column_place, column_called, ItemFault, ItemsFault}
use Rattle.sp_returns.specs.Stands.{in_column, Gives, IsReturnsOf, item_for, RefusesReturns}

-- An expression of this sort with as many decimals as a column of this kind has.
pub record Suited (span : Span) (kind : Kind) (p : Expr × Sort) (expr : Expr) : Type 0 where
  pub fits : fits_fault span kind p.1 ≡ None
  pub within : StaysWithin expr
  pub comes : (event : Event) (bound : BoundEvents) → in_column kind (comes_to p event bound) ≡ Some (value expr event bound)
  pub of_kind : (r : Readable) → HasSort r p.0 p.1 → IsOfKind r kind expr
  pub reads : ReadsEarlier p.0 → ReadsEarlier expr

-- such an expression, or why there is none
abbrev pub SuitedAnswer : Span → Kind → Expr × Sort → Result Expr CompileFault → Type 0
SuitedAnswer span kind p (Ok expr) = Suited span kind p expr
SuitedAnswer span kind p (Err fault) = Found (fits_fault span kind p.1) fault

-- The expression of a tree for a column of this kind: the tree has no fault, and the expression gives what it means, keeps its bounds,
-- is of the kind, and reads bound names alone.
pub record Fitted (scope : Scope) (texts : List (List ℕ)) (kind : Kind) (tree : Tree) (expr : Expr) : Type 0 where
  pub sort : Sort
  pub types : Types scope tree (Ok sort)
  pub fits : fits_fault (span_of tree) kind sort ≡ None
  pub gives : Gives scope texts kind tree expr
  pub within : StaysWithin expr
  pub of_kind : IsOfKind (readable_in scope texts) kind expr
  pub reads : ReadsEarlier expr

-- what a fault says of a tree for a column of this kind; want of memory says nothing
abbrev pub Misfits : Scope → Kind → Tree → CompileFault → Type 0
Misfits scope kind tree f.Memory = Unit {0}
Misfits scope kind tree fault = (verdict : Verdict) × Types scope tree verdict × (Some fault ≡ verdict_fault (span_of tree) kind verdict)

-- such an expression, or the first fault
abbrev pub FittedAnswer : Scope → List (List ℕ) → Kind → Tree → Result Expr CompileFault → Type 0
FittedAnswer scope texts kind tree (Ok expr) = Fitted scope texts kind tree expr
FittedAnswer scope texts kind tree (Err fault) = Misfits scope kind tree fault

-- What stands in for a column where the items are these: the expression of its item.
pub record FilledBy (from : Plan) (returns : List Return) (column : Column) (expr : Expr) : Type 0 where
  pub item : Return
  pub is_for : item_for returns column.name ≡ Some item
  pub fitted : Fitted (item_scope from) from.texts column.kind item.tree expr

-- and nothing where it has none
abbrev pub SlotFor : Plan → List Return → Column → Option Expr → Type 0
SlotFor from returns column None = is_returned returns column.name ≡ false
SlotFor from returns column (Some expr) = FilledBy from returns column expr

abbrev pub AreSlots : Plan → List Return → List Column → List (Option Expr) → Type 0
AreSlots from returns columns slots = AllZip (SlotFor from returns) columns slots

-- a number of some scale with as many decimals as a column has, or why there is none
abbrev pub ScaledAnswer : Span → ℕ → Expr → ℕ → Result Expr CompileFault → Type 0
ScaledAnswer span decimals expr scale (Ok made) = (scaled_fault span decimals scale (bound expr) ≡ None) × (scale ≤ decimals) × IsRaised expr (decimals - scale) made
ScaledAnswer span decimals expr scale (Err fault) = Found (scaled_fault span decimals scale (bound expr)) fault

-- the place of the column that an item behind these is for, or what is wrong with its name
abbrev pub TargetAnswer : List Column → List Return → Return → Result ℕ CompileFault → Type 0
TargetAnswer columns before item (Ok place) = (place < length columns) × (column_place columns item.name.text ≡ Some place) × (is_returned before item.name.text ≡ false)
TargetAnswer columns before item (Err fault) = (scope : Scope) → ItemFault scope before item (column_called columns item.name.text) (Some fault)

-- What is in the slots for these columns once all items were gone through, which have no fault.
pub record Gone (from : Plan) (returns : List Return) (columns : List Column) (slots : List (Option Expr)) : Type 0 where
  pub checks : ItemsFault (item_scope from) columns [] returns None
  pub slots_are : AreSlots from returns columns slots

-- what a fault says of items, the columns without one left aside; want of memory says nothing
abbrev pub Misreturns : Plan → List Return → List Column → CompileFault → Type 0
Misreturns from returns columns f.Memory = Unit {0}
Misreturns from returns columns fault = ItemsFault (item_scope from) columns [] returns (Some fault)

-- a slot that is empty, where the fault isn't want of memory
abbrev pub EmptyAnswer : Span → List (Option Expr) → CompileFault → Type 0
EmptyAnswer span slots fault = (fault ≡ f.Memory) ⊎ ((fault ≡ f.Unknown span) × (at : ℕ) × (slice_get slots at ≡ Some None))

-- what is answered of all items: expressions that stand for them, and are what those who evaluate them need; or the first fault
abbrev pub ReturnsAnswer : List Return → Plan → Schema → Result (Vec Expr) CompileFault → Type 0
ReturnsAnswer returns from into (Ok exprs) = IsReturnsOf returns from into exprs.items × ((second : Plan) → second.schema ≡ into → AreReturns from second exprs.items)
ReturnsAnswer returns from into (Err fault) = RefusesReturns returns from into fault
