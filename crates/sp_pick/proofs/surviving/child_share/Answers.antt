use Rattle.std.proofs.Common.{ℕ, List, ap, ◌∙◌}
use Rattle.sp_chance.specs.Shares.{share_of}
use Rattle.sp_pick.specs.Picking.{under}
use Rattle.sp_pick.proofs.Climbing.{child_survives}
use Rattle.sp_pick.proofs.surviving.child_share.Goals as goal

pub returns : goal.returns
returns g c =
    c.share_under.ensures
    ∙ ap (λ (l : List ℕ). under (share_of c.args.chances.now c.in-Some-Some.parent) l c.in-Some-Some.label.now c.args.share) c.groups.ensures.groups
    ∙ child_survives c.args.tree.now.next c.args.tree.now.entries c.live.ensures.grown.fall c.live.ensures.grown.rooted (share_of c.args.chances.now)
    c.args.id c.in-Some-Some.parent c.in-Some-Some.label.now c.args.share c.in-Some-Some.ensures c.in-Some-Some.ensures' c.requires.share
