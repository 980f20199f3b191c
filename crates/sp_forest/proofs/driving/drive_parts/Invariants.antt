use Rattle.std.proofs.Common.{◌≡◌, ◌<◌, [], map, vec_len}
use Rattle.std.specs.Arc.{arc_value}
use Rattle.std.specs.List.{All}
use Rattle.std.specs.VecDeque.{deque_len}
use Rattle.sp_forest.specs.Alike.{RunsAs}
use Rattle.sp_forest.specs.Drivable.{AreDrivable}
use Rattle.sp_forest.proofs.RoundOn.{DroveSoFar}
use Rattle.sp_forest.proofs.driving.drive_parts.Given as goal

abbrev pub invariant-rounds : goal.invariant-rounds
invariant-rounds g l = record {
  drove : DroveSoFar (arc_value l.fn.trees.plan) l.fn.parts.items l.waiting.items l.matches (g.O.Outlet.state l.initial.outlet) (g.O.Outlet.state l.outlet);
  alike : All (λ tree. RunsAs (arc_value l.fn.trees.plan) (arc_value tree.plan)) l.standing.items;
  parts : AreDrivable (arc_value l.fn.trees.plan) l.fn.trees.stop l.waiting.items;
  no_fault : (g.O.Outlet.state l.outlet).faults ≡ (g.O.Outlet.state l.initial.outlet).faults;
  plan : g.O.Outlet.plan l.outlet ≡ g.O.Outlet.plan l.initial.outlet;
  token : g.O.Outlet.token l.outlet ≡ g.O.Outlet.token l.initial.outlet;
  names : map (λ tree. (goal.Predictor-dyn g (tree.predictor.vtable, tree.predictor.value)).named tree.predictor.value) l.standing.items
      ≡ map (λ one. (goal.Predictor-dyn g (one.vtable, one.value)).named one.value) l.fn.trees.predictors.items;
  idle : All (λ tree. tree.parts.items ≡ []) l.standing.items;
  size : 0 < vec_len l.standing;
}

abbrev pub decreases-rounds : goal.decreases-rounds
decreases-rounds g l = deque_len l.waiting
