use Rattle.std.proofs.Common.{◌≡◌, ℕ, List, filter, sym, ap, subst, ◌∙◌, is_some}
use Rattle.std.proofs.lemmas.List.{take_all}
use Rattle.sp_group.specs.Rising.{IsLabel}
use Rattle.sp_chance.specs.Shares.{share_of}
use Rattle.sp_pick.specs.Picking.{is_likely}
use Rattle.sp_pick.proofs.Turned.{label_filter}
use Rattle.sp_pick.proofs.labelling.best_label.Goals as goal

pub unreachable-requires : goal.unreachable-requires
unreachable-requires c =
    let all = take_all c.loop-run.run-index c.args.groups.now c.loop-run-test.false in
    let is : c.deref.result.now ≡ filter (is_likely (share_of c.args.chances.now c.args.parent)) c.args.groups.now =
    c.deref.ensures.value ∙ c.loop-run.invariant ∙ ap (filter (is_likely (share_of c.args.chances.now c.args.parent))) all in
    c.in_ok-label.ensures.none (ap is_some c.in-None.is) (subst (λ (l : List ℕ). IsLabel l) (sym is) (label_filter (is_likely (share_of c.args.chances.now c.args.parent)) c.args.groups.now c.requires))
