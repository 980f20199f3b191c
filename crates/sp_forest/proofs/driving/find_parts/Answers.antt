use Rattle.std.proofs.Common.{◌<◌, ◌^◌, length, map, take, vec_len, sym, ◌∙◌, ap, subst, arith}
use Rattle.std.specs.Arc.{arc_value}
use Rattle.std.proofs.lemmas.Bool.{eqb-true}
use Rattle.std.proofs.lemmas.List.{length-map, map-id}
use Rattle.std.proofs.lemmas.List.Elements.{All-take}
use Rattle.sp_plan.specs.declared.found.Match.{Match}
use Rattle.sp_parts.specs.Seen.{seen}
use Rattle.sp_parts.proofs.Places.{all_unmap}
use Rattle.sp_forest.specs.Alike.{RunsAs}
use Rattle.sp_forest.specs.Drivable.{AreDrivable, CanBeDriven}
use Rattle.sp_forest.proofs.Passing.{all_alike}
use Rattle.sp_forest.proofs.RoundOn.{found_all, found_none, list_fit, list_next}
use Rattle.sp_forest.proofs.RunAlike.{left_drivable, trees_compiled, trees_drive}
use Rattle.sp_forest.proofs.driving.find_parts.Goals as goal

pub rounds-init : goal.rounds-init
rounds-init g c =
    let q = arc_value c.args.trees.plan in
    let parts = c.args.parts.items in
    let standing = c.in_ok-standing.standing in
    let names = ap length c.in_ok-standing.ensures.names in
    let after = length-map standing.items (λ tree. (goal.Predictor-dyn g (tree.predictor.vtable, tree.predictor.value)).named tree.predictor.value) in
    let before = length-map c.args.trees.predictors.items (λ one. (goal.Predictor-dyn g (one.vtable, one.value)).named one.value) in
    record {
      found = found_none q parts c.from-waiting.result.items c.new-all.result.items c.from-waiting.ensures.0 c.new-all.ensures.items;
      alike = all_alike (λ plan. RunsAs q (arc_value plan)) (λ plan. plan) (λ tree. tree.plan) (take (vec_len c.args.trees.predictors) c.args.trees.own.items) standing.items (c.in_ok-standing.ensures.plans ∙ sym (map-id _))
          (All-take (λ own. RunsAs q (arc_value own)) (vec_len c.args.trees.predictors) c.args.trees.own.items c.requires.alike);
      parts = subst (AreDrivable q c.args.trees.stop) (sym c.from-waiting.ensures.0)
          (all_unmap (CanBeDriven q c.args.trees.stop) seen parts (c.parts_can_be_driven.ensures q c.args.trees.stop (map seen parts) c.requires.compiled c.requires.parts).0);
      idle = c.in_ok-standing.ensures.idle;
      size = omega (arith, names, after, before, standing.ok.0, c.args.trees.predictors.ok.0, c.requires.some);
    }

pub rounds-preserved : goal.rounds-preserved
rounds-preserved g c =
    let l = c.rounds in
    let q = arc_value c.args.trees.plan in
    let driven = c.in_ok-driven.driven in
    let round = c.in_ok-driven.ensures in
    let drove = round.found q l.invariant.alike in
    let plans = ap length round.plans in
    let after = length-map driven.items (λ tree. tree.plan) in
    let before = length-map l.standing.items (λ tree. tree.plan) in
    record {
      found = list_next q c.args.parts.items l.waiting.items c.round.new.waiting.items l.all.items (map (λ own. own.items) c.in_ok-driven.found.items) l.invariant.found drove
          c.list_parts.new.all.items c.in_ok-list_parts.ensures;
      alike = all_alike (λ plan. RunsAs q (arc_value plan)) (λ tree. tree.plan) (λ tree. tree.plan) l.standing.items driven.items round.plans l.invariant.alike;
      parts = left_drivable q c.args.trees.stop l.waiting.items c.round.new.waiting.items _ drove l.invariant.parts;
      idle = round.idle;
      size = omega (arith, plans, after, before, driven.ok.0, l.standing.ok.0, l.invariant.size);
    }

pub round-requires-clause-compiled : goal.round-requires-clause-compiled
round-requires-clause-compiled g c κs within = trees_compiled (λ tree. arc_value tree.plan) (arc_value c.args.trees.plan) c.rounds.standing.items c.rounds.invariant.alike

pub round-requires-clause-parts : goal.round-requires-clause-parts
round-requires-clause-parts g c κs within =
    let l = c.rounds in
    let q = arc_value c.args.trees.plan in
    trees_drive (λ tree. arc_value tree.plan) q c.ground_of-ground.result.stop l.waiting.items
    (subst (λ stop. AreDrivable q stop l.waiting.items) (sym c.ground_of-ground.ensures.stop) l.invariant.parts) l.standing.items l.invariant.alike

pub list_parts-requires : goal.list_parts-requires
list_parts-requires g c =
    let l = c.rounds in
    let q = arc_value c.args.trees.plan in
    record {
      fit = list_fit q c.args.parts.items l.waiting.items c.round.new.waiting.items l.all.items (map (λ own. own.items) c.in_ok-driven.found.items) l.invariant.found (c.in_ok-driven.ensures.found q l.invariant.alike)
          (λ (one : Match). one.number < 2 ^ 64) (c.parts_can_be_driven.ensures q c.args.trees.stop (map seen c.args.parts.items) c.requires.compiled c.requires.parts).1.numbers;
    }

pub returns : goal.returns
returns g c =
    let l = c.rounds in
    let none = eqb-true _ 0 (sym c.is_empty.ensures ∙ c.rounds-test.false) in
    found_all (arc_value c.args.trees.plan) c.args.parts.items l.waiting.items l.all.items (sym l.waiting.ok.0 ∙ none) l.invariant.found
