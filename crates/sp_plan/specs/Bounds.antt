-- How great the values of an expression may be, by its columns' greatest numbers; and expressions whose values stay in bounds.
use Rattle.std.specs.Prelude.{ℕ, ◌+◌, ◌*◌, ◌^◌, ◌≤◌, unsigned_abs}
use Rattle.std.specs.List.{All}
use Rattle.sp_base.specs.Limits.{number_limit}
use Rattle.sp_plan.specs.declared.event.Event.{Event}
use Rattle.sp_plan.specs.declared.event.Value.{Value}
use Rattle.sp_plan.specs.declared.event.Value.TheVariants as v
use Rattle.sp_plan.specs.declared.plan.Expr.{Expr, Literal, Word, Column, Earlier, Raise', Minus', Add', Sub', Mul'}
use Rattle.sp_plan.specs.declared.plan.Pred.{Pred, Always, Test, And', Or', Not'}
use Rattle.sp_plan.specs.Values.{BoundEvents}

-- the greatest magnitude that a value may have
abbrev pub greatest : ℕ
greatest = 1000000000000000000000000000000000000

-- the magnitude that no value of the expression passes
abbrev pub bound : Expr → ℕ
bound (Literal n) = unsigned_abs n
bound (Word s) = s
bound (Column c) = number_limit
bound (Earlier name c) = number_limit
bound (Raise' by p inner) = bound inner * 10 ^ by
bound (Minus' p inner) = bound inner
bound (Add' p left q right) = bound left + bound right
bound (Sub' p left q right) = bound left + bound right
bound (Mul' p left q right) = bound left * bound right

-- The bound of the expression, and of each expression in it, is at most 10^36, and no scale is raised by more than 36.
abbrev pub StaysWithin : Expr → Type 0
StaysWithin (Literal n) = unsigned_abs n ≤ greatest
StaysWithin (Word s) = s ≤ greatest
StaysWithin (Column c) = Unit {0}
StaysWithin (Earlier name c) = Unit {0}
StaysWithin (Raise' by p inner) = StaysWithin inner × (by ≤ 36) × (bound inner * 10 ^ by ≤ greatest)
StaysWithin (Minus' p inner) = StaysWithin inner
StaysWithin (Add' p left q right) = StaysWithin left × StaysWithin right × (bound left + bound right ≤ greatest)
StaysWithin (Sub' p left q right) = StaysWithin left × StaysWithin right × (bound left + bound right ≤ greatest)
StaysWithin (Mul' p left q right) = StaysWithin left × StaysWithin right × (bound left * bound right ≤ greatest)

-- The same of both sides of each comparison.
abbrev pub PredWithin : Pred → Type 0
PredWithin Always = Unit {0}
PredWithin (Test by left right) = StaysWithin left × StaysWithin right
PredWithin (And' p left q right) = PredWithin left × PredWithin right
PredWithin (Or' p left q right) = PredWithin left × PredWithin right
PredWithin (Not' p inner) = PredWithin inner

-- a number is at most 10^15 in magnitude; a text is any
abbrev pub SmallValue : Value → Type 0
SmallValue (v.Number n) = unsigned_abs n ≤ number_limit
SmallValue (v.Symbol s) = Unit {0}

-- The numbers of an event are at most 10^15 in magnitude.
abbrev pub IsSmall : Event → Type 0
IsSmall e = All SmallValue e.values

-- and those of all bound events
abbrev pub AllSmall : BoundEvents → Type 0
AllSmall b = All (λ pair. IsSmall pair.1) b
