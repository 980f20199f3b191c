use Rattle.std.proofs.Common.{◌≡◌, ◌+◌, ◌-◌, ◌*◌, ◌≤◌, max, ◌++◌, map}
use Rattle.std.specs.List.{range_with_len}
use Rattle.sp_window.specs.declared.record.Limit.TheVariants.{AtTime}
use Rattle.sp_window.specs.Openings as spec
use Rattle.sp_window.proofs.opening.open_spans.Given as goal

abbrev pub invariant-loop-span : goal.invariant-loop-span
invariant-loop-span l = record {
  items : l.records.items ≡ l.fn.records.items ++ map (λ k. spec.open_at l.number (AtTime (k * l.step + l.size))) (range_with_len l.first (l.span - l.first));
  within : l.span ≤ max l.first l.end;
}
