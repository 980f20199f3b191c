use Rattle.std.proofs.Common.{◌≡◌, ◌≤◌}
use Rattle.sp_plan.specs.Held
use Rattle.sp_plan.specs.declared.plan.Expr.{size-Expr}
use Rattle.sp_plan.proofs.held.+reads_name.Given as goal

abbrev pub decreases-reads_name : goal.decreases-reads_name
decreases-reads_name l = goal.size-reads_name l

abbrev pub invariant-loop-rest : goal.invariant-loop-rest
invariant-loop-rest l = record {
  comes : Held.reads_name l.name l.expr ≡ Held.reads_name l.name l.rest;
  shallow : size-Expr l.rest ≤ size-Expr l.expr;
}
