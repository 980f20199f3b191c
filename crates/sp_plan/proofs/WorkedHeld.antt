-- Held sides, and what they come to, tried on worked predicates by computation.
use Rattle.std.proofs.Common.{◌≡◌, ℤ, pos, negsuc, [], ◌∷◌, Box, Global, refl}
use Rattle.sp_plan.specs.declared.event.Event.{Event}
use Rattle.sp_plan.specs.declared.event.Value.TheVariants.{Number, Symbol}
use Rattle.sp_plan.specs.declared.held.Sides.TheVariants.{Near, LeftHeld, RightHeld, Mixed}
use Rattle.sp_plan.specs.declared.plan.Compare.TheVariants.{Equal, Less, Greater}
use Rattle.sp_plan.specs.declared.plan.Expr.{Literal, Word, Column, Earlier, Sub', Mul'}
use Rattle.sp_plan.specs.declared.plan.Pred.{Pred, Test, And', Or', Not'}
use Rattle.sp_plan.specs.Values.{BoundEvents}
use Rattle.sp_plan.specs.Held.{held_columns, saturated, sides}

abbrev Own : Type 0
Own = Box (Unit {0}) Global

-- a price and a text
abbrev event : ℤ → Event
event price = record { time = pos 3; values = Number price ∷ Symbol 1 ∷ [] }

-- of two runs, one that has bound two events to the name 0 and one that has bound one
abbrev twice : BoundEvents
twice = (0, event (pos 7)) ∷ (0, event (pos 20)) ∷ []

abbrev once : BoundEvents
once = (0, event (pos 5)) ∷ []

-- price * 100 > A.price * 101
abbrev dearer : Own → Own → Own → Own → Pred
dearer p q r s = Test Greater (Mul' p (Column 0) q (Literal (pos 100))) (Mul' r (Earlier 0 0) s (Literal (pos 101)))

-- 30 < A.price
abbrev dear : Pred
dear = Test Less (Literal (pos 30)) (Earlier 0 0)

-- A.price < price, price - A.price > 5, price > 5 and A.price < A.price
abbrev turned_over : Pred
turned_over = Test Less (Earlier 0 0) (Column 0)

abbrev far : Own → Own → Pred
far p q = Test Greater (Sub' p (Column 0) q (Earlier 0 0)) (Literal (pos 5))

right_held : (p q r s : Own) → sides (Mul' p (Column 0) q (Literal (pos 100))) (Mul' r (Earlier 0 0) s (Literal (pos 101))) ≡ RightHeld
right_held p q r s = refl

left_held : sides (Earlier 0 0) (Column 0) ≡ LeftHeld
left_held = refl

mixed : (p q : Own) → sides (Sub' p (Column 0) q (Earlier 0 0)) (Literal (pos 5)) ≡ Mixed
mixed p q = refl

near : sides (Column 0) (Literal (pos 5)) ≡ Near
near = refl

both_bound : sides (Earlier 0 0) (Earlier 1 0) ≡ Mixed
both_bound = refl

-- the right part of an AND comes first, under a NOT too, and what isn't parted has no value
values_of_and : (p q r s t u : Own) → held_columns (And' t (dearer p q r s) u turned_over) (twice ∷ []) ≡ (pos 20 ∷ []) ∷ (pos 2020 ∷ []) ∷ []
values_of_and p q r s t u = refl

values_under_not : (p q r s t u v : Own) → held_columns (Or' t dear u (Not' v (dearer p q r s))) (twice ∷ []) ≡ (pos 2020 ∷ []) ∷ (pos 20 ∷ []) ∷ []
values_under_not p q r s t u v = refl

values_of_mixed : (p q r s : Own) → held_columns (And' r (far p q) s (Test Equal (Column 1) (Word 1))) (twice ∷ []) ≡ []
values_of_mixed p q r s = refl

-- by comparison, and in each by run
columns : (p q r s t u : Own) → held_columns (And' t (dearer p q r s) u turned_over) (twice ∷ once ∷ []) ≡ (pos 20 ∷ pos 5 ∷ []) ∷ (pos 2020 ∷ pos 505 ∷ []) ∷ []
columns p q r s t u = refl

-- a name of which nothing is bound reads as 0
none : held_columns turned_over ([] ∷ []) ≡ (pos 0 ∷ []) ∷ []
none = refl

-- past 64 bits the last number stands for it
past : saturated (pos 9223372036854775808) ≡ pos 9223372036854775807
past = refl

below : saturated (negsuc 9223372036854775900) ≡ negsuc 9223372036854775807
below = refl

within : saturated (pos 9223372036854775807) ≡ pos 9223372036854775807
within = refl
