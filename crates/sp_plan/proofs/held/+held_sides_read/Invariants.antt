use Rattle.std.proofs.Common.{◌≡◌, ◌≤◌}
use Rattle.sp_plan.specs.Held
use Rattle.sp_plan.specs.declared.plan.Pred.{size-Pred}
use Rattle.sp_plan.proofs.held.+held_sides_read.Given as goal

abbrev pub decreases-held_sides_read : goal.decreases-held_sides_read
decreases-held_sides_read l = goal.size-held_sides_read l

abbrev pub invariant-loop-rest : goal.invariant-loop-rest
invariant-loop-rest l = record {
  comes : Held.held_sides_read l.name l.pred ≡ Held.held_sides_read l.name l.rest;
  shallow : size-Pred l.rest ≤ size-Pred l.pred;
}
