use Rattle.std.proofs.Common.{◌++◌, map, sym, ◌∙◌, ap, subst}
use Rattle.std.specs.Arc.{arc_value}
use Rattle.std.proofs.lemmas.List.Elements.{All-tail}
use Rattle.sp_forest.specs.Drivable.{AreDrivable, CanBeDriven, moved_matches}
use Rattle.sp_parts.specs.Seen.{seen}
use Rattle.sp_forest.proofs.Passing.{made_more}
use Rattle.sp_forest.proofs.tree.drive_tree.Goals as goal

pub loop-part-preserved : goal.loop-part-preserved
loop-part-preserved g c =
    let l = c.loop-part in
    let q = arc_value c.args.tree.plan in
    let stop = c.args.ground.now.stop in
    let rest = c.next.new.self.rest.items in
    let steps = c.in-Some.ensures.steps.0 in
    let so = ap (λ r. map (λ own. own.items) l.found.items ++ map (λ part. moved_matches q (seen part)) r) (sym steps) ∙ l.invariant.found in
    record {
      name = c.in_ok-own.ensures.name ∙ l.invariant.name;
      found = rw c.in_ok-push_back.ensures.items
          (made_more (λ own. own.items) (λ part. moved_matches q (seen part)) l.found.items c.in_ok-own.own rest c.in-Some.part _ c.in_ok-own.ensures.found so);
      parts = All-tail (λ part. CanBeDriven q stop (seen part)) c.in-Some.part rest (subst (AreDrivable q stop) steps l.invariant.parts);
    }
