use Rattle.std.proofs.Common.{◌≡◌, drop}
use Rattle.sp_plan.specs.Runs.{behind}
use Rattle.sp_scan.proofs.ahead.behind.Given as goal

abbrev pub invariant-loop-place : goal.invariant-loop-place
invariant-loop-place l = behind l.pairs l.name l.elements ≡ behind l.pairs l.name (drop l.place l.elements)
