use Rattle.std.proofs.Common.{◌≡◌, ℕ, ◌<◌, ◌≤◌, ◌&&◌, false, map}
use Rattle.sp_plan.specs.Masks.{has, outcome}
use Rattle.sp_plan.specs.declared.plan.Pred.{Test}
use Rattle.sp_plan.proofs.runs.each_asked.Given as goal

abbrev pub invariant-loop-run : goal.invariant-loop-run
invariant-loop-run g l = record {
  seen : (k : ℕ) → k < l.run → has l.mask k ≡ (has l.asked k && outcome (Test l.by l.left l.right) l.asking.event.now (map g.R.Binds.binds l.asking.runs.now) k);
  others : (k : ℕ) → l.run ≤ k → has l.mask k ≡ false;
}
