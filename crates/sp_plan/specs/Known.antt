-- What is known of a predicate whatever events are bound: what an expression says that reads one of them is not known.
use Rattle.std.specs.Prelude.{◌≡◌, Bool, true, false, ◌&&◌, ◌||◌, not, Option, Some, None, [], if◌then◌else◌}
use Rattle.sp_plan.specs.declared.event.Event.{Event}
use Rattle.sp_plan.specs.declared.plan.Expr.{Expr, Literal, Word, Column, Earlier, Raise', Minus', Add', Sub', Mul'}
use Rattle.sp_plan.specs.declared.plan.Pred.{Pred, Always, Test, And', Or', Not'}
use Rattle.sp_plan.specs.Values.{BoundEvents, value, compares, holds}

-- whether an expression reads an event that is bound
abbrev pub reads_bound : Expr → Bool
reads_bound (Literal n) = false
reads_bound (Word s) = false
reads_bound (Column c) = false
reads_bound (Earlier name c) = true
reads_bound (Raise' by p inner) = reads_bound inner
reads_bound (Minus' p inner) = reads_bound inner
reads_bound (Add' p left q right) = reads_bound left || reads_bound right
reads_bound (Sub' p left q right) = reads_bound left || reads_bound right
reads_bound (Mul' p left q right) = reads_bound left || reads_bound right

-- whether an outcome is the answer
abbrev pub agrees : Bool → Bool → Bool
agrees answer outcome = if answer then outcome else not outcome

-- whether a predicate may come to the answer
abbrev pub may_be : Bool → Pred → Event → Bool
may_be answer Always e = answer
may_be answer (Test by left right) e = reads_bound left || reads_bound right || agrees answer (compares by (value left e []) (value right e []))
may_be answer (And' p left q right) e = if answer then may_be answer left e && may_be answer right e else may_be answer left e || may_be answer right e
may_be answer (Or' p left q right) e = if answer then may_be answer left e || may_be answer right e else may_be answer left e && may_be answer right e
may_be answer (Not' p inner) e = may_be (not answer) inner e

-- whether it may hold
abbrev pub may_hold : Pred → Event → Bool
may_hold p e = may_be true p e

-- what it comes to; None where that is not known
abbrev pub known : Pred → Event → Option Bool
known p e = if may_be true p e then (if may_be false p e then None else Some true) else Some false

-- An answer that is known is right, whatever events are bound.
abbrev pub KnownIsRight : Type 0
KnownIsRight = (p : Pred) (e : Event) (b : BoundEvents) (answer : Bool) → known p e ≡ Some answer → holds p e b ≡ answer

-- What may not hold doesn't, whatever events are bound.
abbrev pub WhatMayNotHoldDoesNot : Type 0
WhatMayNotHoldDoesNot = (p : Pred) (e : Event) (b : BoundEvents) → may_hold p e ≡ false → holds p e b ≡ false
