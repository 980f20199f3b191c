use Rattle.std.proofs.Common.{◌≡◌, drop}
use Rattle.sp_plan.specs.Runs.{behind}
use Rattle.sp_match.specs.inside.Kept.{kept, pairs}
use Rattle.sp_match.proofs.taking.behind.Given as goal

abbrev pub invariant-loop-i : goal.invariant-loop-i
invariant-loop-i l = behind (pairs (kept l.run)) l.name (drop l.i l.elements) ≡ behind (pairs (kept l.run)) l.name l.elements
