use Rattle.std.proofs.Common.{◌≡◌, ◌++◌, map}
use Rattle.std.specs.Arc.{arc_value}
use Rattle.sp_forest.specs.Drivable.{AreDrivable, moved_matches}
use Rattle.sp_parts.specs.Seen.{seen}
use Rattle.sp_forest.proofs.tree.drive_tree.Given as goal

abbrev pub invariant-loop-part : goal.invariant-loop-part
invariant-loop-part g l = record {
  name : (goal.Predictor-dyn g (l.predictor.vtable, l.predictor.value)).named l.predictor.value
      ≡ (goal.Predictor-dyn g (l.fn.tree.predictor.vtable, l.fn.tree.predictor.value)).named l.fn.tree.predictor.value;
  found : map (λ own. own.items) l.found.items ++ map (λ part. moved_matches (arc_value l.fn.tree.plan) (seen part)) l.part-iterator.rest.items
      ≡ map (λ part. moved_matches (arc_value l.fn.tree.plan) (seen part)) l.fn.tree.parts.items;
  parts : AreDrivable (arc_value l.fn.tree.plan) l.ground.stop l.part-iterator.rest.items;
}
