-- Expressions, predicates and plans are the same as themselves; same expressions have one value, and same predicates hold alike.
use Rattle.std.proofs.Common.{◌≡◌, ◌^◌, pos, ◌&&◌, ◌||◌, not, List, [], ◌∷◌, refl, ap}
use Rattle.std.specs.Prelude.{◌+ℤ◌, ◌-ℤ◌, ◌*ℤ◌, neg_ℤ}
use Rattle.std.specs.List.{AllZip}
use Rattle.sp_plan.specs.declared.plan.Expr.{Expr, Literal, Word, Column, Earlier, Raise', Minus', Add', Sub', Mul'}
use Rattle.sp_plan.specs.declared.plan.Pred.{Pred, Always, Test, And', Or', Not'}
use Rattle.sp_plan.specs.declared.plan.Name.{Name}
use Rattle.sp_plan.specs.declared.plan.Opening.{Opening}
use Rattle.sp_plan.specs.declared.plan.Opening.TheVariants.{EveryEvents, EveryTime, When}
use Rattle.sp_plan.specs.Same.{SameExpr, SamePred, SameName, SameOpening}
use Rattle.sp_plan.specs.declared.event.Event.{Event}
use Rattle.sp_plan.specs.Values.{BoundEvents, column_of, earlier_column, last_bound, value, compares}
use Rattle.sp_plan.specs.Laws.{PlansAreThemselves, SamePredicatesHoldAlike}

own_expr : (x : Expr) → SameExpr x x
own_expr (Literal n) = refl
own_expr (Word s) = refl
own_expr (Column c) = refl
own_expr (Earlier name c) = (refl, refl)
own_expr (Raise' by p inner) = (refl, own_expr inner)
own_expr (Minus' p inner) = own_expr inner
own_expr (Add' p left q right) = (own_expr left, own_expr right)
own_expr (Sub' p left q right) = (own_expr left, own_expr right)
own_expr (Mul' p left q right) = (own_expr left, own_expr right)

own_pred : (x : Pred) → SamePred x x
own_pred Always = tt
own_pred (Test by left right) = (refl, own_expr left, own_expr right)
own_pred (And' p left q right) = (own_pred left, own_pred right)
own_pred (Or' p left q right) = (own_pred left, own_pred right)
own_pred (Not' p inner) = own_pred inner

own_names : (xs : List Name) → AllZip SameName xs xs
own_names [] = tt
own_names (x ∷ xs) = ((refl, own_pred x.pred, refl), own_names xs)

own_opening : (x : Opening) → SameOpening x x
own_opening (EveryEvents n) = refl
own_opening (EveryTime s) = refl
own_opening (When p) = own_pred p

pub own_plan : PlansAreThemselves
own_plan q = record { schema = refl; names = own_names q.names; elements = refl; select = refl; length = refl; opening = own_opening q.opening; texts = refl }

same_value : (x y : Expr) (e : Event) (b : BoundEvents) → SameExpr x y → value x e b ≡ value y e b
same_value (Literal n) (Literal m) e b h = h
same_value (Word s) (Word t) e b h = ap pos h
same_value (Column c) (Column d) e b h = ap (λ n. column_of n e) h
same_value (Earlier name c) (Earlier other d) e b h = λ i. earlier_column (last_bound (h.0 i) b) (h.1 i)
same_value (Raise' by p inner) (Raise' times q other) e b h = λ i. same_value inner other e b h.1 i *ℤ pos (10 ^ h.0 i)
same_value (Minus' p inner) (Minus' q other) e b h = ap neg_ℤ (same_value inner other e b h)
same_value (Add' p left q right) (Add' r first s second) e b h = λ i. same_value left first e b h.0 i +ℤ same_value right second e b h.1 i
same_value (Sub' p left q right) (Sub' r first s second) e b h = λ i. same_value left first e b h.0 i -ℤ same_value right second e b h.1 i
same_value (Mul' p left q right) (Mul' r first s second) e b h = λ i. same_value left first e b h.0 i *ℤ same_value right second e b h.1 i
same_value _ _ e b h = absurd h

pub holds_alike : SamePredicatesHoldAlike
holds_alike Always Always e b h = refl
holds_alike (Test by left right) (Test so first second) e b h = λ i. compares (h.0 i) (same_value left first e b h.1 i) (same_value right second e b h.2 i)
holds_alike (And' p left q right) (And' r first s second) e b h = λ i. holds_alike left first e b h.0 i && holds_alike right second e b h.1 i
holds_alike (Or' p left q right) (Or' r first s second) e b h = λ i. holds_alike left first e b h.0 i || holds_alike right second e b h.1 i
holds_alike (Not' p inner) (Not' q other) e b h = ap not (holds_alike inner other e b h)
holds_alike _ _ e b h = absurd h
