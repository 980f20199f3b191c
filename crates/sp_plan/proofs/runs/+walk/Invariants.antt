use Rattle.std.proofs.Common.{◌≡◌, ℕ, ◌+◌, ◌<◌, ◌≤◌, ◌&&◌, ◌||◌, length, map}
use Rattle.sp_plan.specs.Bounds as b
use Rattle.sp_plan.specs.Held.{held_sides}
use Rattle.sp_plan.specs.Holding.{AreHeldFrom}
use Rattle.sp_plan.specs.Masks.{has, outcome}
use Rattle.sp_plan.specs.declared.plan.Pred.{size-Pred}
use Rattle.sp_plan.proofs.runs.+walk.Given as goal

abbrev pub decreases-walk : goal.decreases-walk
decreases-walk g l = goal.size-walk g l

abbrev pub invariant-loop-rest : goal.invariant-loop-rest
invariant-loop-rest g l = record {
  within : b.PredWithin l.rest;
  held : AreHeldFrom l.asking.columns.now l.next (map g.R.Binds.binds l.asking.runs.now) l.rest;
  comes : (run : ℕ) → run < length l.asking.runs.now → (has l.asked run && outcome l.pred l.asking.event.now (map g.R.Binds.binds l.asking.runs.now) run)
      ≡ (has l.won run || (has l.undecided run && outcome l.rest l.asking.event.now (map g.R.Binds.binds l.asking.runs.now) run));
  behind : l.next + length (held_sides l.rest) ≡ l.first + length (held_sides l.pred);
  shallow : size-Pred l.rest ≤ size-Pred l.pred;
}
