-- What the cells of a row give, all together.
use Rattle.std.specs.Prelude.{◌≡◌, ℕ, ℤ, pos, ◌+◌, List, Option, Some, None, slice_get}
use Rattle.sp_plan.specs.declared.event.Value.{Value}
use Rattle.sp_plan.specs.declared.event.Value.TheVariants.{Number, Symbol}
use Rattle.sp_rows.specs.declared.fault.RowKind.{RowKind}
use Rattle.sp_rows.specs.declared.values.RowValues.{RowValues}
use Rattle.sp_rows.specs.declared.values.RowValues.TheVariants.{Whole, Fault}
use Rattle.sp_rows.specs.Rows.{Cell, number, text, fault}

-- the kind of the fault that a cell gives
abbrev pub fault_of : Cell → Option RowKind
fault_of (number n) = None
fault_of (text t) = None
fault_of (fault kind) = Some kind

-- these values and texts, where there is no fault, or this fault
abbrev pub ValuesAre : List Value × List (List ℕ) → Option (RowKind × ℕ) → List Value → List (List ℕ) → RowValues → Type 0
ValuesAre values found read texts Whole = ((read, texts) ≡ values) × (found ≡ None)
ValuesAre values found read texts (Fault kind place) = found ≡ Some (kind, place + 1)

-- the number that a value is, 0 for a text's
abbrev pub number_or_zero : Value → ℤ
number_or_zero (Number n) = n
number_or_zero (Symbol s) = pos 0

abbrev pub value_or_zero : Option Value → ℤ
value_or_zero None = pos 0
value_or_zero (Some value) = number_or_zero value

-- the value at this place, if one is given
abbrev pub time_among : List Value → Option ℕ → ℤ
time_among values None = pos 0
time_among values (Some own) = value_or_zero (slice_get values own)

-- the values that are read give this time at this place
abbrev pub TimeIs : Option ℕ → ℤ → List Value → RowValues → Type 0
TimeIs own time read Whole = time_among read own ≡ time
TimeIs own time read (Fault kind place) = Unit {0}
