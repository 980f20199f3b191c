-- What the expressions and predicates of a query's text mean.
use Rattle.std.specs.Prelude.{◌≡◌, ℕ, ℤ, pos, ◌+◌, ◌-◌, ◌^◌, max, ◌+ℤ◌, ◌-ℤ◌, ◌*ℤ◌, neg_ℤ, Bool, ◌&&◌, ◌||◌, not, List, [], ◌∷◌, Option, Some, None, if◌then◌else◌}
use Rattle.sp_lex.specs.declared.token.Word.{Word}
use Rattle.sp_lex.specs.declared.token.Word.TheVariants as w
use Rattle.sp_plan.specs.declared.event.Event.{Event}
use Rattle.sp_plan.specs.declared.plan.Compare.{Compare}
use Rattle.sp_plan.specs.Texts.{symbol_of}
use Rattle.sp_plan.specs.Values.{BoundEvents, column_of, earlier_column, last_bound, compares}
use Rattle.sp_query.specs.declared.tree.Tree.{Tree, out-Tree}
use Rattle.sp_query.specs.declared.tree.Node.{Node}
use Rattle.sp_query.specs.declared.tree.Node.TheVariants as n
use Rattle.sp_query.specs.declared.query.QueryColumn.{QueryColumn}
use Rattle.sp_compile.specs.Scopes.{Scope, column_place, name_place}
use Rattle.sp_compile.specs.Sorts.{column_there, is_equality}

-- a number as units and a scale, or a text by its number among the texts
pub data Datum : Type 0 where
  number : (units : ℤ) (scale : ℕ) → Datum
  text : (symbol : ℤ) → Datum

-- what stands in a column of this kind
abbrev pub datum_of : Word → ℕ → ℤ → Datum
datum_of w.Int digits value = number value 0
datum_of w.Dec digits value = number value digits
datum_of _ digits value = text value

-- what a number or a text of the query is
abbrev pub constant_datum : List (List ℕ) → Node → Option Datum
constant_datum texts (n.Whole x) = Some (number (pos x) 0)
constant_datum texts (n.Decimal units scale) = Some (number (pos units) scale)
constant_datum texts (n.Literal t) = Some (text (pos (symbol_of texts t)))
constant_datum texts _ = None

abbrev pub raised_units : ℤ → ℕ → ℕ → ℤ
raised_units units scale to = units *ℤ pos (10 ^ (to - scale))

-- Sums and differences at the greater scale; products add scales. Of texts there are none.
abbrev pub combined : Node → Datum → Datum → Option Datum
combined n.Add (number x k) (number y m) = Some (number (raised_units x k (max k m) +ℤ raised_units y m (max k m)) (max k m))
combined n.Sub (number x k) (number y m) = Some (number (raised_units x k (max k m) -ℤ raised_units y m (max k m)) (max k m))
combined n.Mul (number x k) (number y m) = Some (number (x *ℤ y) (k + m))
combined _ _ _ = None

abbrev pub negative : Datum → Option Datum
negative (number x k) = Some (number (neg_ℤ x) k)
negative (text x) = None

-- Numbers are compared at the greater scale, texts by their numbers. Texts are equal or not, and in no order.
abbrev pub compared : Compare → Datum → Datum → Option Bool
compared by (number x k) (number y m) = Some (compares by (raised_units x k (max k m)) (raised_units y m (max k m)))
compared by (text x) (text y) = if is_equality by then Some (compares by x y) else None
compared by _ _ = None

-- What an expression comes to, over the event at hand and the events bound before it.
pub data Means (scope : Scope) (texts : List (List ℕ)) (e : Event) (b : BoundEvents) : Tree → Datum → Type 0 where
  constant : (t : Tree) (datum : Datum) → constant_datum texts (out-Tree t).node ≡ Some datum → Means scope texts e b t datum
  own : (t : Tree) (name : List ℕ) (place : ℕ) (column : QueryColumn) (datum : Datum) → (out-Tree t).node ≡ n.Own name → column_place scope.columns name ≡ Some place → column_there scope.columns (Some place) ≡ Some column
      → datum ≡ datum_of column.kind column.digits (column_of place e) → Means scope texts e b t datum
  earlier : (t : Tree) (bound name : List ℕ) (number place : ℕ) (column : QueryColumn) (datum : Datum) → (out-Tree t).node ≡ n.Earlier bound name → name_place scope.names bound ≡ Some number
      → column_place scope.columns name ≡ Some place → column_there scope.columns (Some place) ≡ Some column
      → datum ≡ datum_of column.kind column.digits (earlier_column (last_bound number b) place) → Means scope texts e b t datum
  minus : (t part : Tree) (inner datum : Datum) → (out-Tree t).node ≡ n.Minus → (out-Tree t).parts ≡ part ∷ [] → Means scope texts e b part inner → negative inner ≡ Some datum → Means scope texts e b t datum
  binary : (t left right : Tree) (one other datum : Datum) → (out-Tree t).parts ≡ left ∷ right ∷ [] → Means scope texts e b left one → Means scope texts e b right other
      → combined (out-Tree t).node one other ≡ Some datum → Means scope texts e b t datum

-- Whether a predicate is true.
pub data Truth (scope : Scope) (texts : List (List ℕ)) (e : Event) (b : BoundEvents) : Tree → Bool → Type 0 where
  test : (t left right : Tree) (by : Compare) (one other : Datum) (is : Bool) → (out-Tree t).node ≡ n.Test by → (out-Tree t).parts ≡ left ∷ right ∷ [] → Means scope texts e b left one → Means scope texts e b right other
      → compared by one other ≡ Some is → Truth scope texts e b t is
  both : (t left right : Tree) (one other is : Bool) → (out-Tree t).node ≡ n.And → (out-Tree t).parts ≡ left ∷ right ∷ [] → Truth scope texts e b left one → Truth scope texts e b right other → is ≡ (one && other) → Truth scope texts e b t is
  either : (t left right : Tree) (one other is : Bool) → (out-Tree t).node ≡ n.Or → (out-Tree t).parts ≡ left ∷ right ∷ [] → Truth scope texts e b left one → Truth scope texts e b right other → is ≡ (one || other) → Truth scope texts e b t is
  denied : (t part : Tree) (inner is : Bool) → (out-Tree t).node ≡ n.Not → (out-Tree t).parts ≡ part ∷ [] → Truth scope texts e b part inner → is ≡ not inner → Truth scope texts e b t is
