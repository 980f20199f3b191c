use Rattle.std.proofs.Common.{arith, ◌-◌, ap, ◌∙◌}
use Rattle.sp_chance.specs.Shares.{share_of}
use Rattle.sp_pick.specs.Picking.{survival_in}
use Rattle.sp_pick.proofs.Climbing.{next_down}
use Rattle.sp_pick.proofs.surviving.passed_down.Goals as goal

pub child_share-share-requires-clause-child : goal.child_share-share-requires-clause-child
child_share-share-requires-clause-child g c =
    let grown = c.live.ensures.grown in
    let within = c.requires.within in
    let kept = c.requires.kept in
    let left = c.loop-left.invariant.0 in
    (next_down c.args.tree.now.next c.args.tree.now.entries grown.fall grown.rooted c.loop-left.left c.args.id _ c.requires.live c.loop-left-test.true (omega arith) (c.path_up-path.ensures (c.loop-left.left - 1) (omega arith))).0

pub child_share-share-requires-clause-share : goal.child_share-share-requires-clause-share
child_share-share-requires-clause-share g c =
    let grown = c.live.ensures.grown in
    let within = c.requires.within in
    let kept = c.requires.kept in
    let left = c.loop-left.invariant.0 in
    c.loop-left.invariant.1
    ∙ ap (survival_in (share_of c.args.chances.now) c.args.tree.now.entries)
    (next_down c.args.tree.now.next c.args.tree.now.entries grown.fall grown.rooted c.loop-left.left c.args.id _ c.requires.live c.loop-left-test.true (omega arith) (c.path_up-path.ensures (c.loop-left.left - 1) (omega arith))).1
