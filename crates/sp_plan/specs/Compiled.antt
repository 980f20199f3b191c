-- What every compiled plan keeps.
use Rattle.std.specs.Prelude.{◌≡◌, ◌≢◌, ◌+◌, ◌<◌, ◌≤◌, ℕ, List, [], ◌∷◌, ◌++◌, length, map, take, drop, Option, Some, None, slice_get}
use Rattle.std.specs.List.{All, AllPairs, last_or, range_with_len}
use Rattle.sp_plan.specs.declared.plan.Plan.{Plan}
use Rattle.sp_plan.specs.declared.plan.Column.{Column}
use Rattle.sp_plan.specs.declared.plan.Kind.{Kind}
use Rattle.sp_plan.specs.declared.plan.Kind.TheVariants.{Int, Dec, Text}
use Rattle.sp_plan.specs.declared.plan.Length.{Length}
use Rattle.sp_plan.specs.declared.plan.Length.TheVariants.{Events, Time}
use Rattle.sp_plan.specs.declared.plan.Name.{Name}
use Rattle.sp_plan.specs.declared.plan.Element.{Element}
use Rattle.sp_plan.specs.declared.plan.Element.TheVariants.{One, Plus, Set, Never}
use Rattle.sp_plan.specs.declared.plan.Opening.{Opening}
use Rattle.sp_plan.specs.declared.plan.Opening.TheVariants.{EveryEvents, EveryTime, When}
use Rattle.sp_plan.specs.Bounds.{PredWithin}
use Rattle.sp_plan.specs.Comparable.{Readable, IsComparable}
use Rattle.sp_plan.specs.Runs.{names_of, bound_names}
use Rattle.sp_plan.specs.Windows.{IsWindowed}

-- the numbers of the names of all elements, in the order of the pattern
abbrev pub numbers_of : List Element → List ℕ
numbers_of [] = []
numbers_of (element ∷ elements) = names_of element ++ numbers_of elements

-- the predicate of an opening stays within bounds
abbrev pub OpeningWithin : Opening → Type 0
OpeningWithin (EveryEvents step) = Unit {0}
OpeningWithin (EveryTime step) = Unit {0}
OpeningWithin (When pred) = PredWithin pred

-- the time's column is there, and holds whole numbers
abbrev pub IsTimeOf : List Column → Option ℕ → Type 0
IsTimeOf columns None = Unit {0}
IsTimeOf columns (Some place) = (column : Column) × (slice_get columns place ≡ Some column) × (column.kind ≡ Int)

-- no two of these texts are the same
abbrev pub AreApart : List (List ℕ) → Type 0
AreApart texts = AllPairs (λ one other. one ≢ other) texts

-- numbers have at most 6 decimals, and those of DEC 1 at least
abbrev pub IsKind : Kind → Type 0
IsKind Int = Unit {0}
IsKind (Dec digits) = (1 ≤ digits) × (digits ≤ 6)
IsKind Text = Unit {0}

-- a set has two names or more
abbrev pub IsSetOfMany : Element → Type 0
IsSetOfMany (One name) = Unit {0}
IsSetOfMany (Plus name) = Unit {0}
IsSetOfMany (Set first count) = 2 ≤ count
IsSetOfMany (Never name) = Unit {0}

-- there is a first element, and it is not negated
abbrev pub IsFirst : List Element → Type 0
IsFirst [] = ⊥
IsFirst (Never name ∷ elements) = ⊥
IsFirst (element ∷ elements) = Unit {0}

-- there is a last element, and it is neither one event or more nor negated
abbrev pub IsLast : Option Element → Type 0
IsLast None = ⊥
IsLast (Some (One name)) = Unit {0}
IsLast (Some (Plus name)) = ⊥
IsLast (Some (Set first count)) = Unit {0}
IsLast (Some (Never name)) = ⊥

-- a length in time, which a step in time needs as well, goes with a column of the time
abbrev pub IsTimed : Option ℕ → Length → Type 0
IsTimed time (Events n) = Unit {0}
IsTimed None (Time d) = ⊥
IsTimed (Some place) (Time d) = Unit {0}

-- what a predicate of the plan may read where the names below this number are of earlier elements
abbrev pub readable : Plan → ℕ → Readable
readable q bound = record { columns = q.schema.columns; texts = length q.texts; names = bound; binding = bound_names q }

-- Elements, the first name of which has this number, and their names: each name's predicate reads names of earlier elements alone, and none that is negated.
abbrev pub ReadEarlier : Plan → ℕ → List Element → List Name → Type 0
ReadEarlier q first [] names = Unit {0}
ReadEarlier q first (element ∷ elements) names =
    let width = length (names_of element) in
    All (λ name. IsComparable (readable q first) name.pred) (take width names) × ReadEarlier q (first + width) elements (drop width names)

-- The predicate of an opening reads no name.
abbrev pub OpeningReads : Readable → Opening → Type 0
OpeningReads r (EveryEvents step) = Unit {0}
OpeningReads r (EveryTime step) = Unit {0}
OpeningReads r (When pred) = IsComparable r pred

-- A plan is one that a query has. Its columns and names are so many, and told apart; the time is a column of whole numbers; each name
-- is of one element, in order; the first and the last element aren't negated, and the last isn't one event or more; predicates compare
-- like with like, read columns that are there and events that are bound earlier, and stay within 10^36; windows keep their limits, and
-- those of time go with a time.
pub record IsCompiled (q : Plan) : Type 0 where
  pub columns : length q.schema.columns ≤ 64
  pub columns_apart : AreApart (map (λ column. column.name) q.schema.columns)
  pub kinds : All (λ column. IsKind column.kind) q.schema.columns
  pub time : IsTimeOf q.schema.columns q.schema.time
  pub names : length q.names ≤ 32
  pub some_name : 0 < length q.names
  pub names_apart : AreApart (map (λ name. name.text) q.names)
  pub elements : numbers_of q.elements ≡ range_with_len 0 (length q.names)
  pub sets : All IsSetOfMany q.elements
  pub first : IsFirst q.elements
  pub last : IsLast (last_or None q.elements)
  pub preds : All (λ name. PredWithin name.pred) q.names
  pub reads : ReadEarlier q 0 q.elements q.names
  pub opening : OpeningWithin q.opening
  pub opening_reads : OpeningReads (readable q 0) q.opening
  pub windowed : IsWindowed q
  pub timed : IsTimed q.schema.time q.length
  pub texts_apart : AreApart q.texts
