-- In which order items are checked, and which fault is the first.
use Rattle.std.specs.Prelude.{◌≡◌, ℕ, Bool, nat_lt, List, [], ◌∷◌, ◌++◌, Option, Some, None, Ok, Err, slice_get, if◌then◌else◌}
use Rattle.std.specs.List.{position, list_any, last_or}
use Rattle.std.specs.Str.{bytes_eq}
use Rattle.sp_lex.specs.declared.token.Span.{Span}
use Rattle.sp_plan.specs.declared.plan.Column.{Column}
use Rattle.sp_plan.specs.declared.plan.Kind.{Kind}
use Rattle.sp_plan.specs.declared.plan.Kind.TheVariants as k
use Rattle.sp_plan.specs.declared.plan.Plan.{Plan}
use Rattle.sp_plan.specs.declared.plan.Schema.{Schema}
use Rattle.sp_compile.specs.declared.fault.CompileFault.{CompileFault}
use Rattle.sp_compile.specs.declared.fault.CompileFault.TheVariants as f
use Rattle.sp_compile.specs.declared.sort.Sort.{Sort}
use Rattle.sp_compile.specs.declared.sort.Sort.TheVariants as s
use Rattle.sp_compile.specs.Checks.{Types, span_of, Then, Finds}
use Rattle.sp_compile.specs.Scopes.{Scope}
use Rattle.sp_compile.specs.Sorts.{Verdict, first, side_fault}
use Rattle.sp_returns.specs.declared.item.Return.{Return}
use Rattle.sp_returns.specs.Scopes.{item_scope}

-- ---- an item

-- a number for a column of so many decimals: it has no more of them, and isn't too great with as many
abbrev pub scaled_fault : Span → ℕ → ℕ → ℕ → Option CompileFault
scaled_fault span decimals scale bound =
    if nat_lt decimals scale then Some (f.WrongKind span)
    else side_fault span scale decimals bound

-- an expression of some sort for a column of a kind: both are texts, or both are numbers
abbrev pub fits_fault : Span → Kind → Sort → Option CompileFault
fits_fault span k.Text s.Text = None
fits_fault span k.Int (s.Number scale bound) = scaled_fault span 0 scale bound
fits_fault span (k.Dec digits) (s.Number scale bound) = scaled_fault span digits scale bound
fits_fault span _ _ = Some (f.WrongKind span)

-- the expression's own fault comes first
abbrev pub verdict_fault : Span → Kind → Verdict → Option CompileFault
verdict_fault span kind (Err fault) = Some fault
verdict_fault span kind (Ok sort) = fits_fault span kind sort

-- What is wrong with the sum of an item for this column, if something is.
abbrev pub SumFault : Scope → Return → Column → Option CompileFault → Type 0
SumFault scope item column fault = (verdict : Verdict) × Types scope item.tree verdict × (fault ≡ verdict_fault (span_of item.tree) column.kind verdict)

-- whether one of these items is for the column of this name
abbrev pub is_returned : List Return → List ℕ → Bool
is_returned returns text = list_any (λ item. bytes_eq item.name.text text) returns

-- the place of the first column of this name
abbrev pub column_place : List Column → List ℕ → Option ℕ
column_place columns text = position (λ column. bytes_eq column.name text) columns

-- the column of this place, if there is one
abbrev pub column_there : List Column → Option ℕ → Option Column
column_there columns None = None
column_there columns (Some place) = slice_get columns place

-- the column of this name
abbrev pub column_called : List Column → List ℕ → Option Column
column_called columns text = column_there columns (column_place columns text)

-- An item behind these, by its column: it is there, no item before is for it, and then the sum is checked.
abbrev pub ItemFault : Scope → List Return → Return → Option Column → Option CompileFault → Type 0
ItemFault scope before item None = Finds (Some (f.Unknown item.name.span))
ItemFault scope before item (Some column) =
    Then (Finds (if is_returned before item.name.text then Some (f.Twice item.name.span) else None)) (SumFault scope item column)

-- ---- all items

-- Items from the left, behind these.
abbrev pub ItemsFault : Scope → List Column → List Return → List Return → Option CompileFault → Type 0
ItemsFault scope columns before [] = Finds None
ItemsFault scope columns before (item ∷ rest) =
    Then (ItemFault scope before item (column_called columns item.name.text)) (ItemsFault scope columns (before ++ item ∷ []) rest)

-- where the name of an item ends, and of none where there is none
abbrev pub name_end : Option Return → ℕ
name_end None = 0
name_end (Some item) = item.name.span.to

-- the empty place behind the last item
abbrev pub behind : List Return → Span
behind returns = record { from = name_end (last_or None returns); to = name_end (last_or None returns) }

-- each column has an item
abbrev pub missing_fault : List Return → List Column → Option CompileFault
missing_fault returns [] = None
missing_fault returns (column ∷ columns) =
    first (if is_returned returns column.name then None else Some (f.Unknown (behind returns))) (missing_fault returns columns)

-- From the left, and then the columns without an item.
abbrev pub AllFault : Scope → List Column → List Return → Option CompileFault → Type 0
AllFault scope columns returns = Then (ItemsFault scope columns [] returns) (Finds (missing_fault returns columns))

-- The first fault of the items, or that they have none.
abbrev pub ReturnsFault : Plan → Schema → List Return → Option CompileFault → Type 0
ReturnsFault from into returns = AllFault (item_scope from) into.columns returns
