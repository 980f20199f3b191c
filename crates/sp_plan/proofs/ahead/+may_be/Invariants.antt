use Rattle.std.proofs.Common.{◌≡◌, ◌≤◌}
use Rattle.sp_plan.specs.Known
use Rattle.sp_plan.specs.Bounds as b
use Rattle.sp_plan.specs.declared.plan.Pred.{size-Pred}
use Rattle.sp_plan.proofs.ahead.+may_be.Given as goal

abbrev pub decreases-may_be : goal.decreases-may_be
decreases-may_be l = goal.size-may_be l

abbrev pub invariant-loop-rest : goal.invariant-loop-rest
invariant-loop-rest l = record {
  within : b.PredWithin l.rest;
  comes : Known.may_be l.answer l.pred l.event ≡ Known.may_be l.wanted l.rest l.event;
  shallow : size-Pred l.rest ≤ size-Pred l.pred;
}
