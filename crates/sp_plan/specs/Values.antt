-- What an expression or a predicate says of an event and of the events bound before it.
use Rattle.std.specs.Prelude.{ℕ, ℤ, pos, ◌+ℤ◌, ◌-ℤ◌, ◌*ℤ◌, neg_ℤ, ◌^◌, int_lt, int_le, Bool, true, ◌&&◌, ◌||◌, not, List, Option, Some, None, slice_get, ◌==◌, filter}
use Rattle.std.specs.List.{last_or}
use Rattle.std.specs.Ordering.{int_eq}
use Rattle.sp_plan.specs.declared.event.Event.{Event}
use Rattle.sp_plan.specs.declared.event.Value.{Value}
use Rattle.sp_plan.specs.declared.event.Value.TheVariants.{Number, Symbol}
use Rattle.sp_plan.specs.declared.plan.Compare.{Compare}
use Rattle.sp_plan.specs.declared.plan.Compare.TheVariants.{Equal, Unequal, Less, AtMost, Greater, AtLeast}
use Rattle.sp_plan.specs.declared.plan.Expr.{Expr, Literal, Word, Column, Earlier, Raise', Minus', Add', Sub', Mul'}
use Rattle.sp_plan.specs.declared.plan.Pred.{Pred, Always, Test, And', Or', Not'}

-- the events bound so far, each with its name, in the order in which they were bound
abbrev pub BoundEvents : Type 0
BoundEvents = List (ℕ × Event)

-- the units of a number, and the number of a text; 0 where there is no value
abbrev pub units : Option Value → ℤ
units (Some (Number n)) = n
units (Some (Symbol s)) = pos s
units None = pos 0

-- what stands in column c of an event
abbrev pub column_of : ℕ → Event → ℤ
column_of c e = units (slice_get e.values c)

-- column c of the last event that is bound to the name
abbrev pub earlier_column : Option (ℕ × Event) → ℕ → ℤ
earlier_column (Some pair) c = column_of c pair.1
earlier_column None c = pos 0

-- the last pair of the name
abbrev pub last_bound : ℕ → BoundEvents → Option (ℕ × Event)
last_bound name b = last_or None (filter (λ pair. pair.0 == name) b)

-- what an expression comes to, in units of its scale; no number is too great
abbrev pub value : Expr → Event → BoundEvents → ℤ
value (Literal n) e b = n
value (Word s) e b = pos s
value (Column c) e b = column_of c e
value (Earlier name c) e b = earlier_column (last_bound name b) c
value (Raise' by p inner) e b = value inner e b *ℤ pos (10 ^ by)
value (Minus' p inner) e b = neg_ℤ (value inner e b)
value (Add' p left q right) e b = value left e b +ℤ value right e b
value (Sub' p left q right) e b = value left e b -ℤ value right e b
value (Mul' p left q right) e b = value left e b *ℤ value right e b

abbrev pub compares : Compare → ℤ → ℤ → Bool
compares Equal x y = int_eq x y
compares Unequal x y = not (int_eq x y)
compares Less x y = int_lt x y
compares AtMost x y = int_le x y
compares Greater x y = int_lt y x
compares AtLeast x y = int_le y x

-- whether a predicate holds
abbrev pub holds : Pred → Event → BoundEvents → Bool
holds Always e b = true
holds (Test by left right) e b = compares by (value left e b) (value right e b)
holds (And' p left q right) e b = holds left e b && holds right e b
holds (Or' p left q right) e b = holds left e b || holds right e b
holds (Not' p inner) e b = not (holds inner e b)
