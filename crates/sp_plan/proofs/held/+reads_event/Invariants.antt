use Rattle.std.proofs.Common.{◌≡◌, ◌≤◌}
use Rattle.sp_plan.specs.Held
use Rattle.sp_plan.specs.declared.plan.Expr.{size-Expr}
use Rattle.sp_plan.proofs.held.+reads_event.Given as goal

abbrev pub decreases-reads_event : goal.decreases-reads_event
decreases-reads_event l = goal.size-reads_event l

abbrev pub invariant-loop-rest : goal.invariant-loop-rest
invariant-loop-rest l = record {
  comes : Held.reads_event l.expr ≡ Held.reads_event l.rest;
  shallow : size-Expr l.rest ≤ size-Expr l.expr;
}
