use Rattle.std.proofs.Common.{◌≡◌, [], ◌≤◌, length, drop}
use Rattle.std.specs.List.{filter_map}
use Rattle.sp_graph.specs.Derived.{numbered_event}
use Rattle.sp_graph.proofs.bind.last_event.Given as goal

abbrev pub invariant-loop-left : goal.invariant-loop-left
invariant-loop-left l = record {
  within : l.left ≤ length l.numbers;
  none : filter_map (numbered_event l.events) (drop l.left l.numbers) ≡ [];
}

abbrev pub decreases-loop-left : goal.decreases-loop-left
decreases-loop-left l = l.left
