use Rattle.std.proofs.Common.{◌≡◌, true, take}
use Rattle.std.specs.Prelude.{is_none}
use Rattle.std.specs.List.{list_all}
use Rattle.sp_plan.specs.Runs.{takes}
use Rattle.sp_scan.proofs.handling.none_takes.Given as goal

abbrev pub invariant-loop-run : goal.invariant-loop-run
invariant-loop-run l = list_all (λ run. is_none (takes l.offer.plan.now run.pairs l.offer.event.now)) (take l.run-index l.runs) ≡ true
