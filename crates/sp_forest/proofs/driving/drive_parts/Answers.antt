use Rattle.std.proofs.Common.{◌<◌, ◌^◌, List, length, map, take, vec_len, refl, sym, ◌∙◌, ap, subst, arith}
use Rattle.std.specs.Arc.{arc_value}
use Rattle.std.proofs.lemmas.Bool.{eqb-true}
use Rattle.std.proofs.lemmas.List.{length-map, map-id}
use Rattle.std.proofs.lemmas.List.Elements.{All-take}
use Rattle.sp_plan.specs.declared.found.Match.{Match}
use Rattle.sp_split.proofs.Turns.{err_any}
use Rattle.sp_parts.specs.declared.part.Part as kept
use Rattle.sp_forest.specs.Drivable.{AreDrivable, CanBeDriven}
use Rattle.sp_parts.specs.Seen.{seen}
use Rattle.sp_parts.proofs.Places.{all_unmap}
use Rattle.sp_forest.specs.Alike.{RunsAs}
use Rattle.sp_forest.proofs.Passing.{all_alike}
use Rattle.sp_forest.proofs.RunAlike.{left_drivable, trees_compiled, trees_drive}
use Rattle.sp_forest.proofs.RoundOn.{DroveSoFar, drove_all, drove_first, drove_none, round_failed, round_few, round_fit, round_next, round_short}
use Rattle.sp_forest.proofs.driving.drive_parts.Goals as goal

pub rounds-init : goal.rounds-init
rounds-init g c =
    let q = arc_value c.args.trees.plan in
    let parts = c.args.parts.items in
    let a = g.O.Outlet.state c.args.outlet.now in
    let standing = c.in_ok-standing.standing in
    let names = ap length c.in_ok-standing.ensures.names in
    let after = length-map standing.items (λ tree. (goal.Predictor-dyn g (tree.predictor.vtable, tree.predictor.value)).named tree.predictor.value) in
    let before = length-map c.args.trees.predictors.items (λ one. (goal.Predictor-dyn g (one.vtable, one.value)).named one.value) in
    record {
      drove = subst (λ (l : List kept.Part). DroveSoFar q parts l 0 a a) (sym c.from-waiting.ensures.0) (drove_none q parts a);
      parts = subst (AreDrivable q c.args.trees.stop) (sym c.from-waiting.ensures.0)
          (all_unmap (CanBeDriven q c.args.trees.stop) seen parts (c.parts_can_be_driven.ensures q c.args.trees.stop (map seen parts) c.requires.compiled c.requires.parts).0);
      no_fault = refl;
      plan = refl;
      token = refl;
      names = c.in_ok-standing.ensures.names;
      alike = all_alike (λ plan. RunsAs q (arc_value plan)) (λ plan. plan) (λ tree. tree.plan) (take (vec_len c.args.trees.predictors) c.args.trees.own.items) standing.items (c.in_ok-standing.ensures.plans ∙ sym (map-id _))
          (All-take (λ own. RunsAs q (arc_value own)) (vec_len c.args.trees.predictors) c.args.trees.own.items c.requires.alike);
      idle = c.in_ok-standing.ensures.idle;
      size = omega (arith, names, after, before, standing.ok.0, c.args.trees.predictors.ok.0, c.requires.some);
    }

pub rounds-preserved : goal.rounds-preserved
rounds-preserved g c =
    let l = c.rounds in
    let q = arc_value c.args.trees.plan in
    let driven = c.in_ok-driven.driven in
    let round = c.in_ok-driven.ensures in
    let put = c.in-Ok.ensures in
    let names = ap length round.names in
    let after = length-map driven.items (λ tree. (goal.Predictor-dyn g (tree.predictor.vtable, tree.predictor.value)).named tree.predictor.value) in
    let before = length-map l.standing.items (λ tree. (goal.Predictor-dyn g (tree.predictor.vtable, tree.predictor.value)).named tree.predictor.value) in
    record {
      drove = round_next q (g.O.Outlet.plan l.outlet) (l.invariant.plan ∙ c.requires.outlet_plan) c.args.parts.items l.waiting.items c.round.new.waiting.items l.matches
          (map (λ own. own.items) c.in_ok-driven.found.items) (g.O.Outlet.state c.args.outlet.now) (g.O.Outlet.state l.outlet) l.invariant.drove (round.found q l.invariant.alike)
          (g.O.Outlet.state c.put_parts.new.outlet) c.put_parts.new.matches put.took put.count;
      alike = all_alike (λ plan. RunsAs q (arc_value plan)) (λ tree. tree.plan) (λ tree. tree.plan) l.standing.items driven.items round.plans l.invariant.alike;
      parts = left_drivable q c.args.trees.stop l.waiting.items c.round.new.waiting.items _ (round.found q l.invariant.alike) l.invariant.parts;
      no_fault = put.no_fault (λ no. cc) ∙ l.invariant.no_fault;
      plan = c.put_parts.ensures.same.0 ∙ l.invariant.plan;
      token = c.put_parts.ensures.same.1 ∙ l.invariant.token;
      names = round.names ∙ l.invariant.names;
      idle = round.idle;
      size = omega (arith, names, after, before, driven.ok.0, l.standing.ok.0, l.invariant.size);
    }

pub round-requires-clause-compiled : goal.round-requires-clause-compiled
round-requires-clause-compiled g c κs within = trees_compiled (λ tree. arc_value tree.plan) (arc_value c.args.trees.plan) c.rounds.standing.items c.rounds.invariant.alike

pub round-requires-clause-parts : goal.round-requires-clause-parts
round-requires-clause-parts g c κs within =
    let l = c.rounds in
    let q = arc_value c.args.trees.plan in
    trees_drive (λ tree. arc_value tree.plan) q c.ground_of-ground.result.stop l.waiting.items
    (subst (λ stop. AreDrivable q stop l.waiting.items) (sym c.ground_of-ground.ensures.stop) l.invariant.parts) l.standing.items l.invariant.alike

pub put_parts-requires-clause-fit : goal.put_parts-requires-clause-fit
put_parts-requires-clause-fit g c κs within =
    let l = c.rounds in
    let q = arc_value c.args.trees.plan in
    let round = c.in_ok-driven.ensures in
    round_fit q (g.O.Outlet.plan l.outlet) (l.invariant.plan ∙ c.requires.outlet_plan) c.args.parts.items l.waiting.items c.round.new.waiting.items l.matches
    (map (λ own. own.items) c.in_ok-driven.found.items) (g.O.Outlet.state c.args.outlet.now) (g.O.Outlet.state l.outlet) l.invariant.drove (round.found q l.invariant.alike)
    (λ (one : Match). one.number < 2 ^ 64) (c.parts_can_be_driven.ensures q c.args.trees.stop (map seen c.args.parts.items) c.requires.compiled c.requires.parts).1.numbers

pub put_parts-requires-clause-few : goal.put_parts-requires-clause-few
put_parts-requires-clause-few g c κs within =
    let l = c.rounds in
    let q = arc_value c.args.trees.plan in
    let round = c.in_ok-driven.ensures in
    round_few q (g.O.Outlet.plan l.outlet) (l.invariant.plan ∙ c.requires.outlet_plan) c.args.parts.items l.waiting.items c.round.new.waiting.items l.matches
    (map (λ own. own.items) c.in_ok-driven.found.items) (g.O.Outlet.state c.args.outlet.now) (g.O.Outlet.state l.outlet) l.invariant.drove (round.found q l.invariant.alike)
    (2 ^ 64) (c.parts_can_be_driven.ensures q c.args.trees.stop (map seen c.args.parts.items) c.requires.compiled c.requires.parts).1.few

pub returns-in_err-standing-clause-short : goal.returns-in_err-standing-clause-short
returns-in_err-standing-clause-short g c =
    let q = arc_value c.args.trees.plan in
    let parts = c.args.parts.items in
    let a = g.O.Outlet.state c.args.outlet.now in
    err_any _ c.from_residual.result (drove_first q parts parts 0 a a (drove_none q parts a))

pub returns-in_err-driven-clause-short : goal.returns-in_err-driven-clause-short
returns-in_err-driven-clause-short g c =
    let l = c.rounds in
    err_any _ c.from_residual-in_err-driven.result
    (drove_first (arc_value c.args.trees.plan) c.args.parts.items l.waiting.items l.matches (g.O.Outlet.state c.args.outlet.now) (g.O.Outlet.state l.outlet) l.invariant.drove)

pub returns-in_err-predictors-clause-short : goal.returns-in_err-predictors-clause-short
returns-in_err-predictors-clause-short g c =
    let l = c.rounds in
    err_any _ c.from_residual-in_err-predictors.result
    (drove_first (arc_value c.args.trees.plan) c.args.parts.items l.waiting.items l.matches (g.O.Outlet.state c.args.outlet.now) (g.O.Outlet.state l.outlet) l.invariant.drove)

pub returns-in-Err-Memory-clause-short : goal.returns-in-Err-Memory-clause-short
returns-in-Err-Memory-clause-short g c =
    let l = c.rounds in
    let q = arc_value c.args.trees.plan in
    let round = c.in_ok-driven.ensures in
    round_short q (g.O.Outlet.plan l.outlet) (l.invariant.plan ∙ c.requires.outlet_plan) c.args.parts.items l.waiting.items c.round.new.waiting.items l.matches
    (map (λ own. own.items) c.in_ok-driven.found.items) (g.O.Outlet.state c.args.outlet.now) (g.O.Outlet.state l.outlet) l.invariant.drove (round.found q l.invariant.alike)
    (g.O.Outlet.state c.put_parts.new.outlet) c.put_parts.new.matches (c.in-Err-Memory.ensures.short (cc))

pub returns-in-Err-Failed-clause-refused : goal.returns-in-Err-Failed-clause-refused
returns-in-Err-Failed-clause-refused g c is =
    let l = c.rounds in
    let q = arc_value c.args.trees.plan in
    let round = c.in_ok-driven.ensures in
    round_failed q (g.O.Outlet.plan l.outlet) (l.invariant.plan ∙ c.requires.outlet_plan) c.args.parts.items l.waiting.items c.round.new.waiting.items l.matches
    (map (λ own. own.items) c.in_ok-driven.found.items) (g.O.Outlet.state c.args.outlet.now) (g.O.Outlet.state l.outlet) l.invariant.drove (round.found q l.invariant.alike)
    (g.O.Outlet.state c.put_parts.new.outlet) c.put_parts.new.matches (c.in-Err-Failed.ensures.failed (cc))

pub returns-clause-took : goal.returns-clause-took
returns-clause-took g c taken =
    let l = c.rounds in
    let none = eqb-true _ 0 (sym c.is_empty.ensures ∙ c.rounds-test.false) in
    (drove_all (arc_value c.args.trees.plan) c.args.parts.items l.waiting.items l.matches (g.O.Outlet.state c.args.outlet.now) (g.O.Outlet.state l.outlet) (sym l.waiting.ok.0 ∙ none) l.invariant.drove).0

pub returns-clause-matches : goal.returns-clause-matches
returns-clause-matches g c taken =
    let l = c.rounds in
    let none = eqb-true _ 0 (sym c.is_empty.ensures ∙ c.rounds-test.false) in
    (drove_all (arc_value c.args.trees.plan) c.args.parts.items l.waiting.items l.matches (g.O.Outlet.state c.args.outlet.now) (g.O.Outlet.state l.outlet) (sym l.waiting.ok.0 ∙ none) l.invariant.drove).1
