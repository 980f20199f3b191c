use Rattle.std.proofs.Common.{◌≡◌, ℤ, ◌+◌, ◌≤◌, List, ◌++◌, length}
use Rattle.sp_plan.specs.Held
use Rattle.sp_plan.specs.Held.{put}
use Rattle.sp_plan.specs.Bounds as b
use Rattle.sp_plan.specs.Values.{BoundEvents}
use Rattle.sp_plan.specs.declared.plan.Pred.{size-Pred}
use Rattle.sp_plan.proofs.PutColumns.{IsPut}
use Rattle.sp_plan.proofs.held.+put_values.Given as goal

abbrev pub decreases-put_values : goal.decreases-put_values
decreases-put_values l = goal.size-put_values l

abbrev pub invariant-loop-rest : goal.invariant-loop-rest
invariant-loop-rest l = record {
  within : b.PredWithin l.rest;
  shallow : size-Pred l.rest ≤ size-Pred l.pred;
  behind : l.next + length (Held.held_sides l.rest) ≡ l.first + length (Held.held_sides l.pred);
  size : length l.columns ≡ length l.initial.columns;
  put : (bounds : List BoundEvents) (front back : List (List ℤ)) → l.initial.columns ≡ front ++ Held.held_columns l.pred bounds ++ back → length front ≡ l.first → IsPut l.run l.bound bounds front back (Held.held_sides l.pred) (Held.held_sides l.rest) l.next l.columns;
}
