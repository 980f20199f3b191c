use Rattle.std.proofs.Common.{◌≡◌, List, [], get_or, sym, ap, ◌∙◌}
use Rattle.std.proofs.lemmas.List.{get_or-map, take_at}
use Rattle.std.proofs.lemmas.Result.{on_ok_weaker}
use Rattle.sp_plan.specs.declared.plan.Name.{Name}
use Rattle.sp_plan.specs.Held.{held_columns, put}
use Rattle.sp_plan.specs.Runs.{bound_events}
use Rattle.sp_plan.specs.Values.{BoundEvents}
use Rattle.sp_match.specs.inside.Kept.{kept, pairs}
use Rattle.sp_match.specs.inside.Takers.{columns_under}
use Rattle.sp_match.proofs.PairsOfRuns.{events_of}
use Rattle.sp_match.proofs.holdings.keep_name.Goals as goal

pub returns-clause-columns : goal.returns-clause-columns
returns-clause-columns c = λ bounds is.
    let q = c.args.plan.now in
    let run = c.args.run.now in
    let name = c.args.name in
    let d = c.index-as_slice-name.result in
    let x = get_or c.as_slice.result.now name d in
    let there : x ≡ get_or q.names name d = ap (λ (l : List Name). get_or l name d) c.as_slice.ensures in
    let own : held_columns x.pred bounds ≡ columns_under q name bounds =
    ap (λ (y : Name). held_columns y.pred bounds) there ∙ sym (get_or-map (λ (y : Name). held_columns y.pred bounds) q.names name d [] c.requires.named) in
    let after = put bounds c.args.at (bound_events (pairs (kept run))) in
    let new : held_columns x.pred after ≡ columns_under q name after =
    ap (λ (y : Name). held_columns y.pred after) there ∙ sym (get_or-map (λ (y : Name). held_columns y.pred after) q.names name d [] c.requires.named) in
    let events : bound_events (pairs (kept run)) ≡ run.events = events_of run.bound.items run.events c.requires.good.same_names in
    let back = take_at c.hold_run.new.columns _ _ (c.hold_run.ensures.size ∙ c.deref_mut.ensures.len) in
    on_ok_weaker c.hold_run.result (λ so. back ∙ so ∙ ap (λ (b : BoundEvents). held_columns x.pred (put bounds c.args.at b)) (sym events) ∙ new) (c.hold_run.ensures.held bounds (c.deref_mut.ensures.value ∙ is ∙ sym own))
