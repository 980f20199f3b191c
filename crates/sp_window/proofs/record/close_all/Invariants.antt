use Rattle.std.proofs.Common.{◌≡◌, ◌++◌, map, take, drop}
use Rattle.sp_window.specs.Limits as spec
use Rattle.sp_window.proofs.record.close_all.Given as goal

abbrev pub invariant-loop-at : goal.invariant-loop-at
invariant-loop-at l = take l.at l.records ++ map (spec.ends_at l.fed) (drop l.at l.records) ≡ spec.closed_from l.closed l.fed l.initial.records
