use Rattle.std.proofs.Common.{◌≡◌, ◌≤◌, ◌++◌, map}
use Rattle.sp_plan.specs.Held
use Rattle.sp_plan.specs.Bounds as b
use Rattle.sp_plan.specs.declared.plan.Pred.{size-Pred}
use Rattle.sp_plan.proofs.held.+add_columns.Given as goal

abbrev pub decreases-add_columns : goal.decreases-add_columns
decreases-add_columns g l = goal.size-add_columns g l

abbrev pub invariant-loop-rest : goal.invariant-loop-rest
invariant-loop-rest g l = record {
  within : b.PredWithin l.rest;
  comes : l.columns.items ++ Held.held_columns l.rest (map g.R.Binds.binds l.runs) ≡ l.initial.columns.items ++ Held.held_columns l.pred (map g.R.Binds.binds l.runs);
  shallow : size-Pred l.rest ≤ size-Pred l.pred;
}
