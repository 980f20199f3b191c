-- Plans that differ at most in where their parts lie in memory. A box of an expression has its address beside its value, so plans that were made apart are never equal outright.
use Rattle.std.specs.Prelude.{◌≡◌}
use Rattle.std.specs.List.{AllZip}
use Rattle.sp_plan.specs.declared.plan.Expr.{Expr, Literal, Word, Column, Earlier, Raise', Minus', Add', Sub', Mul'}
use Rattle.sp_plan.specs.declared.plan.Pred.{Pred, Always, Test, And', Or', Not'}
use Rattle.sp_plan.specs.declared.plan.Name.{Name}
use Rattle.sp_plan.specs.declared.plan.Opening.{Opening}
use Rattle.sp_plan.specs.declared.plan.Opening.TheVariants.{EveryEvents, EveryTime, When}
use Rattle.sp_plan.specs.declared.plan.Plan.{Plan}

-- two expressions are one but for addresses
abbrev pub SameExpr : Expr → Expr → Type 0
SameExpr (Literal n) (Literal m) = n ≡ m
SameExpr (Word s) (Word t) = s ≡ t
SameExpr (Column c) (Column d) = c ≡ d
SameExpr (Earlier name c) (Earlier other d) = (name ≡ other) × (c ≡ d)
SameExpr (Raise' by p inner) (Raise' times q other) = (by ≡ times) × SameExpr inner other
SameExpr (Minus' p inner) (Minus' q other) = SameExpr inner other
SameExpr (Add' p left q right) (Add' r first s second) = SameExpr left first × SameExpr right second
SameExpr (Sub' p left q right) (Sub' r first s second) = SameExpr left first × SameExpr right second
SameExpr (Mul' p left q right) (Mul' r first s second) = SameExpr left first × SameExpr right second
SameExpr _ _ = ⊥

-- two predicates are one but for addresses
abbrev pub SamePred : Pred → Pred → Type 0
SamePred Always Always = Unit {0}
SamePred (Test by left right) (Test so first second) = (by ≡ so) × SameExpr left first × SameExpr right second
SamePred (And' p left q right) (And' r first s second) = SamePred left first × SamePred right second
SamePred (Or' p left q right) (Or' r first s second) = SamePred left first × SamePred right second
SamePred (Not' p inner) (Not' q other) = SamePred inner other
SamePred _ _ = ⊥

-- two names are one but for addresses
abbrev pub SameName : Name → Name → Type 0
SameName x y = (x.text ≡ y.text) × SamePred x.pred y.pred × (x.consumed ≡ y.consumed)

-- the same events open windows
abbrev pub SameOpening : Opening → Opening → Type 0
SameOpening (EveryEvents n) (EveryEvents m) = n ≡ m
SameOpening (EveryTime s) (EveryTime t) = s ≡ t
SameOpening (When p) (When r) = SamePred p r
SameOpening _ _ = ⊥

-- Two plans are one but for addresses.
pub record SamePlan (x y : Plan) : Type 0 where
  pub schema : x.schema ≡ y.schema
  pub names : AllZip SameName x.names y.names
  pub elements : x.elements ≡ y.elements
  pub select : x.select ≡ y.select
  pub length : x.length ≡ y.length
  pub opening : SameOpening x.opening y.opening
  pub texts : x.texts ≡ y.texts
