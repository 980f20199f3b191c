-- When expressions stand for what matches return.
use Rattle.std.specs.Prelude.{◌≡◌, ℕ, ℤ, List, Option, Some, None}
use Rattle.std.specs.List.{AllZip, find}
use Rattle.std.specs.Str.{bytes_eq}
use Rattle.sp_plan.specs.declared.event.Event.{Event}
use Rattle.sp_plan.specs.declared.plan.Column.{Column}
use Rattle.sp_plan.specs.declared.plan.Expr.{Expr}
use Rattle.sp_plan.specs.declared.plan.Kind.{Kind}
use Rattle.sp_plan.specs.declared.plan.Kind.TheVariants as k
use Rattle.sp_plan.specs.declared.plan.Plan.{Plan}
use Rattle.sp_plan.specs.declared.plan.Schema.{Schema}
use Rattle.sp_plan.specs.Values.{BoundEvents, value}
use Rattle.sp_query.specs.declared.tree.Tree.{Tree}
use Rattle.sp_compile.specs.declared.fault.CompileFault.{CompileFault}
use Rattle.sp_compile.specs.declared.fault.CompileFault.TheVariants as f
use Rattle.sp_compile.specs.Meaning.{Datum, number, text, Means, raised_units}
use Rattle.sp_compile.specs.Scopes.{Scope}
use Rattle.sp_returns.specs.declared.item.Return.{Return}
use Rattle.sp_returns.specs.Scopes.{item_scope}
use Rattle.sp_returns.specs.Checks.{ReturnsFault}

-- what is put into a column of this kind for a datum: a number in units of the column's last decimal, or a text's number
abbrev pub in_column : Kind → Datum → Option ℤ
in_column k.Text (text symbol) = Some symbol
in_column k.Int (number units scale) = Some (raised_units units scale 0)
in_column (k.Dec digits) (number units scale) = Some (raised_units units scale digits)
in_column _ _ = None

-- The expression comes to what the tree means, put into a column of this kind, whatever events are bound.
abbrev pub Gives : Scope → List (List ℕ) → Kind → Tree → Expr → Type 0
Gives scope texts kind tree expr = (event : Event) (bound : BoundEvents) → (meant : Datum) × Means scope texts event bound tree meant × (in_column kind meant ≡ Some (value expr event bound))

-- the item for the column of this name
abbrev pub item_for : List Return → List ℕ → Option Return
item_for returns name = find (λ item. bytes_eq item.name.text name) returns

-- The column has an item, and the expression gives what that means.
pub record StandsForColumn (from : Plan) (returns : List Return) (column : Column) (expr : Expr) : Type 0 where
  pub item : Return
  pub is_for : item_for returns column.name ≡ Some item
  pub gives : Gives (item_scope from) from.texts column.kind item.tree expr

-- The items have no fault, and there is an expression for each column of the second query, in their order.
pub record IsReturnsOf (returns : List Return) (from : Plan) (into : Schema) (exprs : List Expr) : Type 0 where
  pub checks : ReturnsFault from into returns None
  pub stand : AllZip (StandsForColumn from returns) into.columns exprs

-- What a fault says of items.
abbrev pub RefusesReturns : List Return → Plan → Schema → CompileFault → Type 0
RefusesReturns returns from into f.Memory = Unit {0}
RefusesReturns returns from into fault = ReturnsFault from into returns (Some fault)
