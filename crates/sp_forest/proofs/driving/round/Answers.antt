use Rattle.std.proofs.Common.{◌≡◌, [], List, map, sym, ◌∙◌, subst}
use Rattle.std.specs.Arc.{arc_value}
use Rattle.std.specs.List.{All}
use Rattle.std.proofs.lemmas.List.Elements.{All-map}
use Rattle.sp_plan.specs.Compiled.{IsCompiled}
use Rattle.sp_parts.specs.declared.part.Part as kept
use Rattle.sp_forest.specs.Alike.{RunsAs}
use Rattle.sp_forest.specs.Dealing.{woven}
use Rattle.sp_forest.specs.Drivable.{moved_matches}
use Rattle.sp_parts.specs.Seen.{seen}
use Rattle.sp_parts.proofs.Places.{all_unmap}
use Rattle.sp_forest.proofs.Passing.{all_alike}
use Rattle.sp_forest.proofs.RoundOn.{round_found}
use Rattle.sp_forest.proofs.RunAlike.{trees_find, trees_ready}
use Rattle.sp_forest.proofs.driving.round.Goals as goal

pub drive_all-requires-clause-compiled : goal.drive_all-requires-clause-compiled
drive_all-requires-clause-compiled g c κs within =
    all_alike (λ plan. IsCompiled (arc_value plan)) (λ tree. tree.plan) (λ tree. tree.plan) c.args.trees.items c.deal_round.new.trees.items c.in_ok-groups.ensures.plans c.requires.compiled

pub drive_all-requires-clause-parts : goal.drive_all-requires-clause-parts
drive_all-requires-clause-parts g c κs within =
    trees_ready (λ tree. tree.plan) arc_value (λ tree. tree.parts.items) c.args.ground.now.stop c.args.waiting.now.items c.deal_round.new.waiting.items c.in_ok-groups.groups
    c.args.trees.items c.deal_round.new.trees.items c.in_ok-groups.ensures.plans c.in_ok-groups.ensures.dealt c.requires.parts

pub returns-clause-found : goal.returns-clause-found
returns-clause-found g c q alike =
    let trees = c.deal_round.new.trees.items in
    let plans = c.in_ok-groups.ensures.plans in
    let ready = trees_ready (λ tree. tree.plan) arc_value (λ tree. tree.parts.items) c.args.ground.now.stop c.args.waiting.now.items c.deal_round.new.waiting.items c.in_ok-groups.groups
    c.args.trees.items trees plans c.in_ok-groups.ensures.dealt c.requires.parts in
    let by = trees_find (λ tree. arc_value tree.plan) q c.args.ground.now.stop (λ tree. tree.parts.items) trees
    (all_alike (λ plan. RunsAs q (arc_value plan)) (λ tree. tree.plan) (λ tree. tree.plan) c.args.trees.items trees plans alike) ready in
    record {
      driven = woven c.in_ok-groups.groups (map (λ tree. tree.parts.items) trees);
      are = c.in_ok-groups.ensures.dealt.in_order;
      matches = round_found (λ tree. tree.parts.items) (λ tree. tree.found.items) (λ own. own.items) (λ part. moved_matches q (seen part)) c.in_ok-groups.groups trees c.in_ok-trees.trees.items
          c.in_ok-found.found.items c.in_ok-found.ensures.found (c.in_ok-trees.ensures.found ∙ by);
    }

pub returns-clause-idle : goal.returns-clause-idle
returns-clause-idle g c =
    all_unmap (λ (l : List kept.Part). l ≡ []) (λ tree. tree.parts.items) c.gather.new.trees.items
    (subst (All (λ (l : List kept.Part). l ≡ [])) (sym c.in_ok-found.ensures.parts)
    (All-map (λ (l : List kept.Part). l ≡ []) (λ tree. tree.parts.items) c.in_ok-trees.trees.items c.in_ok-trees.ensures.idle))
