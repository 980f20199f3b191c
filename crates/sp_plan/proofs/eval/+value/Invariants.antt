use Rattle.std.proofs.Common.{◌+◌, ◌*◌, ◌≤◌}
use Rattle.sp_plan.specs.declared.plan.Expr.{size-Expr}
use Rattle.sp_plan.proofs.Spines.{Spine}
use Rattle.sp_plan.proofs.eval.+value.Given as goal

abbrev pub decreases-chain : goal.decreases-chain
decreases-chain l = 2 * size-Expr l.expr.now

abbrev pub decreases-value : goal.decreases-value
decreases-value l = 2 * size-Expr l.expr.now + 1

abbrev pub invariant-chain-loop-rest : goal.invariant-chain-loop-rest
invariant-chain-loop-rest l = record {
  spine : Spine l.expr l.rest l.event l.bound l.sum l.factor;
  shallow : size-Expr l.rest ≤ size-Expr l.expr;
}
