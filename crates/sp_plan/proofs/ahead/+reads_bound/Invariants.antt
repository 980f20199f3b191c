use Rattle.std.proofs.Common.{◌≡◌, ◌≤◌}
use Rattle.sp_plan.specs.Known
use Rattle.sp_plan.specs.declared.plan.Expr.{size-Expr}
use Rattle.sp_plan.proofs.ahead.+reads_bound.Given as goal

abbrev pub decreases-reads_bound : goal.decreases-reads_bound
decreases-reads_bound l = goal.size-reads_bound l

abbrev pub invariant-loop-rest : goal.invariant-loop-rest
invariant-loop-rest l = record {
  comes : Known.reads_bound l.expr ≡ Known.reads_bound l.rest;
  shallow : size-Expr l.rest ≤ size-Expr l.expr;
}
