-- Plans that are one but for where their parts lie in memory: it does not matter which is named first, and what is the same as one of two is
-- the same as the other.
use Rattle.std.proofs.Common.{List, [], ◌∷◌, sym, ◌∙◌}
use Rattle.std.specs.List.{AllZip}
use Rattle.sp_plan.specs.declared.plan.Expr.{Expr, Literal, Word, Column, Earlier, Raise', Minus', Add', Sub', Mul'}
use Rattle.sp_plan.specs.declared.plan.Pred.{Pred, Always, Test, And', Or', Not'}
use Rattle.sp_plan.specs.declared.plan.Name.{Name}
use Rattle.sp_plan.specs.declared.plan.Opening.{Opening}
use Rattle.sp_plan.specs.declared.plan.Opening.TheVariants.{EveryEvents, EveryTime, When}
use Rattle.sp_plan.specs.declared.plan.Plan.{Plan}
use Rattle.sp_plan.specs.Same.{SameExpr, SamePred, SameName, SameOpening, SamePlan}

expr_back : (x y : Expr) → SameExpr x y → SameExpr y x
expr_back (Literal n) (Literal m) h = sym h
expr_back (Word s) (Word t) h = sym h
expr_back (Column c) (Column d) h = sym h
expr_back (Earlier name c) (Earlier other d) h = (sym h.0, sym h.1)
expr_back (Raise' by p inner) (Raise' times q other) h = (sym h.0, expr_back inner other h.1)
expr_back (Minus' p inner) (Minus' q other) h = expr_back inner other h
expr_back (Add' p left q right) (Add' r first s second) h = (expr_back left first h.0, expr_back right second h.1)
expr_back (Sub' p left q right) (Sub' r first s second) h = (expr_back left first h.0, expr_back right second h.1)
expr_back (Mul' p left q right) (Mul' r first s second) h = (expr_back left first h.0, expr_back right second h.1)
expr_back _ _ h = absurd h

expr_on : (x y z : Expr) → SameExpr x y → SameExpr y z → SameExpr x z
expr_on (Literal n) (Literal m) z h k = one z k
  where
    one : (z : Expr) → SameExpr (Literal m) z → SameExpr (Literal n) z
    one (Literal o) k = h ∙ k
    one _ k = absurd k
expr_on (Word n) (Word m) z h k = one z k
  where
    one : (z : Expr) → SameExpr (Word m) z → SameExpr (Word n) z
    one (Word o) k = h ∙ k
    one _ k = absurd k
expr_on (Column n) (Column m) z h k = one z k
  where
    one : (z : Expr) → SameExpr (Column m) z → SameExpr (Column n) z
    one (Column o) k = h ∙ k
    one _ k = absurd k
expr_on (Earlier name c) (Earlier other d) z h k = one z k
  where
    one : (z : Expr) → SameExpr (Earlier other d) z → SameExpr (Earlier name c) z
    one (Earlier third e) k = (h.0 ∙ k.0, h.1 ∙ k.1)
    one _ k = absurd k
expr_on (Raise' by p inner) (Raise' times q other) z h k = one (expr_on inner other) z k
  where
    one : ((z : Expr) → SameExpr inner other → SameExpr other z → SameExpr inner z) → (z : Expr) → SameExpr (Raise' times q other) z → SameExpr (Raise' by p inner) z
    one on (Raise' more r third) k = (h.0 ∙ k.0, on third h.1 k.1)
    one on _ k = absurd k
expr_on (Minus' p inner) (Minus' q other) z h k = one (expr_on inner other) z k
  where
    one : ((z : Expr) → SameExpr inner other → SameExpr other z → SameExpr inner z) → (z : Expr) → SameExpr (Minus' q other) z → SameExpr (Minus' p inner) z
    one on (Minus' r third) k = on third h k
    one on _ k = absurd k
expr_on (Add' p left q right) (Add' r first s second) z h k = one (expr_on left first) (expr_on right second) z k
  where
    one : ((z : Expr) → SameExpr left first → SameExpr first z → SameExpr left z) → ((z : Expr) → SameExpr right second → SameExpr second z → SameExpr right z)
        → (z : Expr) → SameExpr (Add' r first s second) z → SameExpr (Add' p left q right) z
    one on next (Add' t a u b) k = (on a h.0 k.0, next b h.1 k.1)
    one on next _ k = absurd k
expr_on (Sub' p left q right) (Sub' r first s second) z h k = one (expr_on left first) (expr_on right second) z k
  where
    one : ((z : Expr) → SameExpr left first → SameExpr first z → SameExpr left z) → ((z : Expr) → SameExpr right second → SameExpr second z → SameExpr right z)
        → (z : Expr) → SameExpr (Sub' r first s second) z → SameExpr (Sub' p left q right) z
    one on next (Sub' t a u b) k = (on a h.0 k.0, next b h.1 k.1)
    one on next _ k = absurd k
expr_on (Mul' p left q right) (Mul' r first s second) z h k = one (expr_on left first) (expr_on right second) z k
  where
    one : ((z : Expr) → SameExpr left first → SameExpr first z → SameExpr left z) → ((z : Expr) → SameExpr right second → SameExpr second z → SameExpr right z)
        → (z : Expr) → SameExpr (Mul' r first s second) z → SameExpr (Mul' p left q right) z
    one on next (Mul' t a u b) k = (on a h.0 k.0, next b h.1 k.1)
    one on next _ k = absurd k
expr_on _ _ z h k = absurd h

pred_back : (x y : Pred) → SamePred x y → SamePred y x
pred_back Always Always h = h
pred_back (Test by left right) (Test so first second) h = (sym h.0, expr_back left first h.1, expr_back right second h.2)
pred_back (And' p left q right) (And' r first s second) h = (pred_back left first h.0, pred_back right second h.1)
pred_back (Or' p left q right) (Or' r first s second) h = (pred_back left first h.0, pred_back right second h.1)
pred_back (Not' p inner) (Not' q other) h = pred_back inner other h
pred_back _ _ h = absurd h

pred_on : (x y z : Pred) → SamePred x y → SamePred y z → SamePred x z
pred_on Always Always z h k = k
pred_on (Test by left right) (Test so first second) z h k = one z k
  where
    one : (z : Pred) → SamePred (Test so first second) z → SamePred (Test by left right) z
    one (Test to a b) k = (h.0 ∙ k.0, expr_on left first a h.1 k.1, expr_on right second b h.2 k.2)
    one _ k = absurd k
pred_on (And' p left q right) (And' r first s second) z h k = one (pred_on left first) (pred_on right second) z k
  where
    one : ((z : Pred) → SamePred left first → SamePred first z → SamePred left z) → ((z : Pred) → SamePred right second → SamePred second z → SamePred right z)
        → (z : Pred) → SamePred (And' r first s second) z → SamePred (And' p left q right) z
    one on next (And' t a u b) k = (on a h.0 k.0, next b h.1 k.1)
    one on next _ k = absurd k
pred_on (Or' p left q right) (Or' r first s second) z h k = one (pred_on left first) (pred_on right second) z k
  where
    one : ((z : Pred) → SamePred left first → SamePred first z → SamePred left z) → ((z : Pred) → SamePred right second → SamePred second z → SamePred right z)
        → (z : Pred) → SamePred (Or' r first s second) z → SamePred (Or' p left q right) z
    one on next (Or' t a u b) k = (on a h.0 k.0, next b h.1 k.1)
    one on next _ k = absurd k
pred_on (Not' p inner) (Not' q other) z h k = one (pred_on inner other) z k
  where
    one : ((z : Pred) → SamePred inner other → SamePred other z → SamePred inner z) → (z : Pred) → SamePred (Not' q other) z → SamePred (Not' p inner) z
    one on (Not' r third) k = on third h k
    one on _ k = absurd k
pred_on _ _ z h k = absurd h

names_back : (xs ys : List Name) → AllZip SameName xs ys → AllZip SameName ys xs
names_back [] [] h = h
names_back (x ∷ xs) (y ∷ ys) h = ((sym h.0.0, pred_back x.pred y.pred h.0.1, sym h.0.2), names_back xs ys h.1)
names_back [] (y ∷ ys) h = absurd h
names_back (x ∷ xs) [] h = absurd h

names_on : (xs ys zs : List Name) → AllZip SameName xs ys → AllZip SameName ys zs → AllZip SameName xs zs
names_on [] [] zs h k = k
names_on (x ∷ xs) (y ∷ ys) [] h k = absurd k
names_on (x ∷ xs) (y ∷ ys) (z ∷ zs) h k = ((h.0.0 ∙ k.0.0, pred_on x.pred y.pred z.pred h.0.1 k.0.1, h.0.2 ∙ k.0.2), names_on xs ys zs h.1 k.1)
names_on [] (y ∷ ys) zs h k = absurd h
names_on (x ∷ xs) [] zs h k = absurd h

opening_back : (x y : Opening) → SameOpening x y → SameOpening y x
opening_back (EveryEvents n) (EveryEvents m) h = sym h
opening_back (EveryTime s) (EveryTime t) h = sym h
opening_back (When p) (When r) h = pred_back p r h
opening_back _ _ h = absurd h

opening_on : (x y z : Opening) → SameOpening x y → SameOpening y z → SameOpening x z
opening_on (EveryEvents n) (EveryEvents m) z h k = one z k
  where
    one : (z : Opening) → SameOpening (EveryEvents m) z → SameOpening (EveryEvents n) z
    one (EveryEvents o) k = h ∙ k
    one _ k = absurd k
opening_on (EveryTime n) (EveryTime m) z h k = one z k
  where
    one : (z : Opening) → SameOpening (EveryTime m) z → SameOpening (EveryTime n) z
    one (EveryTime o) k = h ∙ k
    one _ k = absurd k
opening_on (When p) (When r) z h k = one z k
  where
    one : (z : Opening) → SameOpening (When r) z → SameOpening (When p) z
    one (When t) k = pred_on p r t h k
    one _ k = absurd k
opening_on _ _ z h k = absurd h

pub same_back : (p q : Plan) → SamePlan p q → SamePlan q p
same_back p q h = record {
  schema = sym h.schema;
  names = names_back p.names q.names h.names;
  elements = sym h.elements;
  select = sym h.select;
  length = sym h.length;
  opening = opening_back p.opening q.opening h.opening;
  texts = sym h.texts;
}

pub same_on : (p q r : Plan) → SamePlan p q → SamePlan q r → SamePlan p r
same_on p q r h k = record {
  schema = h.schema ∙ k.schema;
  names = names_on p.names q.names r.names h.names k.names;
  elements = h.elements ∙ k.elements;
  select = h.select ∙ k.select;
  length = h.length ∙ k.length;
  opening = opening_on p.opening q.opening r.opening h.opening k.opening;
  texts = h.texts ∙ k.texts;
}
