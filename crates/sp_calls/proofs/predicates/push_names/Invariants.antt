use Rattle.sp_plan.specs.Bounds.{AllSmall}
use Rattle.sp_calls.proofs.predicates.push_names.Given as goal

abbrev pub invariant-loop-name : goal.invariant-loop-name
invariant-loop-name l = AllSmall l.bound
