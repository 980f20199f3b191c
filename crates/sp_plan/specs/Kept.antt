-- Where the values of an event stand.
use Rattle.std.specs.Prelude.{◌≡◌, ℕ, ◌^◌, ◌<◌, ◌≤◌, ℤ, pos, unsigned_abs, Bool, true, false, List, length, take, map, replicate, slice_set}
use Rattle.std.specs.List.{All, zip}
use Rattle.sp_plan.specs.declared.event.Value.{Value}
use Rattle.sp_plan.specs.declared.event.Value.TheVariants.{Number, Symbol}
use Rattle.sp_plan.specs.declared.event.Kept.{Kept}
use Rattle.sp_plan.specs.declared.event.Kept.TheVariants.{Few, Many}

-- whether a value is a text, and its number
abbrev pub parts_of : Value → Bool × ℤ
parts_of (Number n) = (false, n)
parts_of (Symbol s) = (true, pos s)

-- the value that has these parts
abbrev pub whole_of : Bool × ℤ → Value
whole_of (true, number) = Symbol (unsigned_abs number)
whole_of (false, number) = Number number

-- They are the parts of a value: a text's number is that of its place, which 32 bits hold.
abbrev pub IsPart : Bool × ℤ → Type 0
IsPart (true, number) = (number ≡ pos (unsigned_abs number)) × (unsigned_abs number < 2 ^ 32)
IsPart (false, number) = Unit {0}

-- the values that are kept so
abbrev pub listed : Kept → List Value
listed (Few count texts numbers) = map whole_of (take count (zip texts numbers))
listed (Many values) = values.items

-- There are four places, no more than these are counted, and each holds the parts of a value.
abbrev pub Counted : Kept → Type 0
Counted (Few count texts numbers) =
    (length texts ≡ 4) × (length numbers ≡ 4) × (count ≤ 4) × All IsPart (zip texts numbers)
Counted (Many values) = Unit {0}

-- no value, in blank places of the event
abbrev pub no_value : Kept
no_value = Few 0 (replicate 4 false) (replicate 4 (pos 0))

-- the same with another value in a place of the event
abbrev pub with_value : Kept → ℕ → Value → Kept
with_value (Few count texts numbers) place value =
    Few count (slice_set texts place (parts_of value).0) (slice_set numbers place (parts_of value).1)
with_value (Many values) place value = Many values
