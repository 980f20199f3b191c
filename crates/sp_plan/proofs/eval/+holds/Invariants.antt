use Rattle.std.proofs.Common.{◌≡◌, ◌≤◌, ◌*◌, ◌+◌}
use Rattle.sp_plan.specs.Values
use Rattle.sp_plan.specs.Bounds as b
use Rattle.sp_plan.specs.declared.plan.Pred.{size-Pred}
use Rattle.sp_plan.proofs.eval.+holds.Given as goal

abbrev pub decreases-chain_holds : goal.decreases-chain_holds
decreases-chain_holds l = 2 * size-Pred l.pred.now

abbrev pub decreases-holds : goal.decreases-holds
decreases-holds l = 2 * size-Pred l.pred.now + 1

abbrev pub invariant-chain_holds-loop-rest : goal.invariant-chain_holds-loop-rest
invariant-chain_holds-loop-rest l = record {
  within : b.PredWithin l.rest;
  comes : Values.holds l.pred l.event l.bound ≡ Values.holds l.rest l.event l.bound;
  shallow : size-Pred l.rest ≤ size-Pred l.pred;
}
