use Rattle.std.proofs.Common.{◌≡◌, ◌++◌, [], List, length, take, drop, map, sym, ◌∙◌, ap, subst, take-append-drop}
use Rattle.std.specs.Arc.{arc_value}
use Rattle.std.specs.List.{All}
use Rattle.std.proofs.lemmas.List.{map-append}
use Rattle.std.proofs.lemmas.List.Elements.{All-drop, All-push, All-tail}
use Rattle.sp_plan.specs.Compiled.{IsCompiled}
use Rattle.sp_forest.specs.Drivable.{AreDrivable, moved_matches}
use Rattle.sp_parts.specs.Seen.{seen}
use Rattle.sp_forest.proofs.Jobs.{jobs_hold, jobs_show}
use Rattle.sp_forest.proofs.Passing.{made_more}
use Rattle.sp_forest.proofs.tree.drive_all.Goals as goal

-- what was made of the first items, and the others
in_two : {X Y Z : Type 0} (f : Y → Z) (g : X → Z) (n : _) (xs ones others : List X) (done : List Y) → map f done ≡ map g ones → ones ≡ take n xs → others ≡ drop n xs
    → map f done ++ map g others ≡ map g xs
in_two f g n xs ones others done made first rest =
    ap (λ l. l ++ map g others) (made ∙ ap (map g) first) ∙ ap (λ l. map g (take n xs) ++ map g l) rest ∙ sym (map-append g (take n xs) (drop n xs)) ∙ ap (map g) (take-append-drop n xs)

pub loop-tree-init : goal.loop-tree-init
loop-tree-init g c =
    let trees = c.args.trees.items in
    let front = c.split_off.new.self in
    let ended = c.in_ok-ended.ended in
    let driven = c.in_ok-driven.driven.items in
    let len : length ended.items ≡ length front.items = sym ended.ok.0 ∙ c.in_ok-ended.ensures.len ∙ front.ok.0 in
    let gives : c.into_iter-tree-iterator.result.rest.items ≡ c.in_ok-others.others.items = c.into_iter-tree-iterator.ensures.into_iter_gives.0 in
    let rest = gives ∙ c.in_ok-others.ensures.tail in record {
      names = in_two (λ tree. (goal.Predictor-dyn g (tree.predictor.vtable, tree.predictor.value)).named tree.predictor.value)
          (λ tree. (goal.Predictor-dyn g (tree.predictor.vtable, tree.predictor.value)).named tree.predictor.value) c.busy.result trees front.items
          c.into_iter-tree-iterator.result.rest.items driven
          (jobs_show front.items ended.items driven len c.in_ok-driven.ensures
          (λ tree. (goal.Predictor-dyn g (tree.predictor.vtable, tree.predictor.value)).named tree.predictor.value)
          (λ tree. (goal.Predictor-dyn g (tree.predictor.vtable, tree.predictor.value)).named tree.predictor.value)
          (λ i d inside. let j = (c.in_ok-ended.ensures.each i d inside).1 in (j.job, j.job_is, j.call.met.0)))
          c.in_ok-others.ensures.items rest;
      plans = in_two (λ tree. tree.plan) (λ tree. tree.plan) c.busy.result trees front.items c.into_iter-tree-iterator.result.rest.items driven
          (jobs_show front.items ended.items driven len c.in_ok-driven.ensures (λ tree. tree.plan) (λ tree. tree.plan)
          (λ i d inside. let j = (c.in_ok-ended.ensures.each i d inside).1 in (j.job, j.job_is, j.call.met.1.0)))
          c.in_ok-others.ensures.items rest;
      found = in_two (λ tree. map (λ own. own.items) tree.found.items) (λ tree. map (λ part. moved_matches (arc_value tree.plan) (seen part)) tree.parts.items) c.busy.result trees front.items
          c.into_iter-tree-iterator.result.rest.items driven
          (jobs_show front.items ended.items driven len c.in_ok-driven.ensures
          (λ tree. map (λ part. moved_matches (arc_value tree.plan) (seen part)) tree.parts.items) (λ tree. map (λ own. own.items) tree.found.items)
          (λ i d inside. let j = (c.in_ok-ended.ensures.each i d inside).1 in (j.job, j.job_is, j.call.met.1.1.1)))
          c.in_ok-others.ensures.items rest;
      idle = jobs_hold front.items ended.items driven len c.in_ok-driven.ensures (λ tree. tree.parts.items ≡ [])
          (λ i d inside. let j = (c.in_ok-ended.ensures.each i d inside).1 in (j.job, j.job_is, j.call.met.1.1.0));
      compiled = subst (All (λ tree. IsCompiled (arc_value tree.plan))) (sym rest) (All-drop (λ tree. IsCompiled (arc_value tree.plan)) c.busy.result trees c.requires.compiled);
      parts = subst (All (λ tree. AreDrivable (arc_value tree.plan) c.args.ground.now.stop tree.parts.items)) (sym rest) (All-drop (λ tree. AreDrivable (arc_value tree.plan) c.args.ground.now.stop tree.parts.items) c.busy.result trees c.requires.parts);
    }

pub loop-tree-preserved : goal.loop-tree-preserved
loop-tree-preserved g c =
    let l = c.loop-tree in
    let rest = c.next.new.self.rest.items in
    let steps = c.in-Some.ensures.steps.0 in
    let drove = c.in_ok-drive_tree.ensures in
    let names = ap (λ r. map (λ tree. (goal.Predictor-dyn g (tree.predictor.vtable, tree.predictor.value)).named tree.predictor.value) l.driven.items
    ++ map (λ tree. (goal.Predictor-dyn g (tree.predictor.vtable, tree.predictor.value)).named tree.predictor.value) r) (sym steps) ∙ l.invariant.names in
    let plans = ap (λ r. map (λ tree. tree.plan) l.driven.items ++ map (λ tree. tree.plan) r) (sym steps) ∙ l.invariant.plans in
    let found = ap (λ r. map (λ tree. map (λ own. own.items) tree.found.items) l.driven.items ++ map (λ tree. map (λ part. moved_matches (arc_value tree.plan) (seen part)) tree.parts.items) r) (sym steps) ∙ l.invariant.found in
    record {
      names = rw c.in_ok-push.ensures.items
          (made_more (λ tree. (goal.Predictor-dyn g (tree.predictor.vtable, tree.predictor.value)).named tree.predictor.value)
          (λ tree. (goal.Predictor-dyn g (tree.predictor.vtable, tree.predictor.value)).named tree.predictor.value) l.driven.items c.in_ok-drive_tree.field-0 rest c.in-Some.tree _ drove.name names);
      plans = rw c.in_ok-push.ensures.items (made_more (λ tree. tree.plan) (λ tree. tree.plan) l.driven.items c.in_ok-drive_tree.field-0 rest c.in-Some.tree _ drove.plan plans);
      found = rw c.in_ok-push.ensures.items
          (made_more (λ tree. map (λ own. own.items) tree.found.items) (λ tree. map (λ part. moved_matches (arc_value tree.plan) (seen part)) tree.parts.items) l.driven.items c.in_ok-drive_tree.field-0 rest c.in-Some.tree _ drove.found found);
      idle = rw c.in_ok-push.ensures.items (All-push (λ tree. tree.parts.items ≡ []) l.driven.items c.in_ok-drive_tree.field-0 l.invariant.idle drove.idle);
      compiled = All-tail (λ tree. IsCompiled (arc_value tree.plan)) c.in-Some.tree rest (subst (All (λ tree. IsCompiled (arc_value tree.plan))) steps l.invariant.compiled);
      parts = All-tail (λ tree. AreDrivable (arc_value tree.plan) c.args.ground.now.stop tree.parts.items) c.in-Some.tree rest (subst (All (λ tree. AreDrivable (arc_value tree.plan) c.args.ground.now.stop tree.parts.items)) steps l.invariant.parts);
    }
