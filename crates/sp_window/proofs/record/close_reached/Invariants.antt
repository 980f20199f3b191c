use Rattle.std.proofs.Common.{◌≡◌, ◌+◌, ◌++◌, take, drop}
use Rattle.std.specs.List.{prefix_len}
use Rattle.sp_window.specs.Limits as spec
use Rattle.sp_window.proofs.record.close_reached.Given as goal

abbrev pub invariant-loop-at : goal.invariant-loop-at
invariant-loop-at l = record {
  records : take l.at l.records ++ spec.settled_front l.fed l.time (drop l.at l.records) ≡ spec.settled l.closed l.fed l.time l.initial.records;
  count : l.at + prefix_len (λ r. spec.is_reached r.limit l.fed l.time) (drop l.at l.records) ≡ l.closed + prefix_len (λ r. spec.is_reached r.limit l.fed l.time) (drop l.closed l.initial.records);
}
