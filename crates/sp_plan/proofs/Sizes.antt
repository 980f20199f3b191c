-- Parts of expressions and predicates have fewer levels than the whole.
use Rattle.std.proofs.Common.{Box, Global, ℕ, ◌<◌, arith}
use Rattle.sp_plan.specs.declared.plan.Expr.{Expr, size-Expr}
use Rattle.sp_plan.specs.declared.plan.Expr.TheViews as e
use Rattle.sp_plan.specs.declared.plan.Pred.{Pred, size-Pred}
use Rattle.sp_plan.specs.declared.plan.Pred.TheViews as p

abbrev Held : Type 0
Held = Box Expr Global

pub in_raise : (by : ℕ) (inner : Held) → size-Expr inner.value < size-Expr (e.Raise by inner)
in_raise by inner = rw (e.size_is-Expr (e.Raise by inner), e.outs-Raise by inner) (omega arith)

pub in_minus : (inner : Held) → size-Expr inner.value < size-Expr (e.Minus inner)
in_minus inner = rw (e.size_is-Expr (e.Minus inner), e.outs-Minus inner) (omega arith)

pub in_add : (left right : Held) → size-Expr left.value < size-Expr (e.Add left right)
in_add left right = rw (e.size_is-Expr (e.Add left right), e.outs-Add left right) (omega arith)

pub in_sub : (left right : Held) → size-Expr left.value < size-Expr (e.Sub left right)
in_sub left right = rw (e.size_is-Expr (e.Sub left right), e.outs-Sub left right) (omega arith)

pub in_mul : (left right : Held) → size-Expr left.value < size-Expr (e.Mul left right)
in_mul left right = rw (e.size_is-Expr (e.Mul left right), e.outs-Mul left right) (omega arith)

abbrev HeldPred : Type 0
HeldPred = Box Pred Global

pub in_and : (left right : HeldPred) → size-Pred left.value < size-Pred (p.And left right)
in_and left right = rw (p.size_is-Pred (p.And left right), p.outs-And left right) (omega arith)

pub in_or : (left right : HeldPred) → size-Pred left.value < size-Pred (p.Or left right)
in_or left right = rw (p.size_is-Pred (p.Or left right), p.outs-Or left right) (omega arith)
