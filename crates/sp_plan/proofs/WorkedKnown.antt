-- What is known whatever events are bound, tried on worked predicates by computation.
use Rattle.std.proofs.Common.{◌≡◌, pos, true, false, [], ◌∷◌, Some, None, Box, Global, refl}
use Rattle.sp_plan.specs.declared.event.Event.{Event}
use Rattle.sp_plan.specs.declared.event.Value.TheVariants.{Number, Symbol}
use Rattle.sp_plan.specs.declared.plan.Compare.TheVariants.{Equal, Less}
use Rattle.sp_plan.specs.declared.plan.Expr.{Literal, Word, Column, Earlier, Add'}
use Rattle.sp_plan.specs.declared.plan.Pred.{Always, Test, And', Or', Not'}
use Rattle.sp_plan.specs.Known.{may_hold, known}

-- a price of 7, and the text of number 1
abbrev event : Event
event = record { time = pos 3; values = Number (pos 7) ∷ Symbol 1 ∷ [] }

abbrev Own : Type 0
Own = Box (Unit {0}) Global

-- a price below the one bound earlier isn't known, and beside a text that is another one it may not hold
cheaper : known (Test Less (Column 0) (Earlier 0 0)) event ≡ None
cheaper = refl

cheaper_and_other : (p q : Own) → known (And' p (Test Less (Column 0) (Earlier 0 0)) q (Test Equal (Column 1) (Word 2))) event ≡ Some false
cheaper_and_other p q = refl

cheaper_and_own : (p q : Own) → known (And' p (Test Less (Column 0) (Earlier 0 0)) q (Test Equal (Column 1) (Word 1))) event ≡ None
cheaper_and_own p q = refl

cheaper_or_own : (p q : Own) → known (Or' p (Test Less (Column 0) (Earlier 0 0)) q (Test Equal (Column 1) (Word 1))) event ≡ Some true
cheaper_or_own p q = refl

cheaper_or_other : (p q : Own) → known (Or' p (Test Less (Column 0) (Earlier 0 0)) q (Test Equal (Column 1) (Word 2))) event ≡ None
cheaper_or_other p q = refl

-- a NOT round what is known turns it, and leaves the rest unknown
not_cheaper : (p : Own) → known (Not' p (Test Less (Column 0) (Earlier 0 0))) event ≡ None
not_cheaper p = refl

not_other : (p : Own) → known (Not' p (Test Equal (Column 1) (Word 2))) event ≡ Some true
not_other p = refl

not_either : (p q r : Own) → known (Not' p (Or' q (Test Less (Column 0) (Earlier 0 0)) r (Test Less (Column 0) (Literal (pos 8))))) event ≡ Some false
not_either p q r = refl

-- one side that reads a bound event is enough
sum : (p q : Own) → known (Test Less (Add' p (Column 0) q (Earlier 0 0)) (Literal (pos 8))) event ≡ None
sum p q = refl

always : known Always event ≡ Some true
always = refl

may : may_hold (Test Less (Column 0) (Earlier 0 0)) event ≡ true
may = refl
