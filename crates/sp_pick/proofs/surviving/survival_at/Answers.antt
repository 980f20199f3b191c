use Rattle.std.proofs.Common.{arith, ◌≡◌, ◌+◌, ◌-◌, true, is_some, sym, ap, subst, ◌∙◌}
use Rattle.sp_group.specs.Family.{entry_at}
use Rattle.sp_chance.specs.Shares.{share_of}
use Rattle.sp_tree.specs.Grown.{kin}
use Rattle.sp_pick.specs.Picking.{survival_in, depth_in}
use Rattle.sp_pick.specs.Paths.{climbed}
use Rattle.sp_pick.proofs.Climbing.{climbed_far, climbed_is, whole}
use Rattle.sp_pick.proofs.surviving.survival_at.Goals as goal

pub loop-left-init : goal.loop-left-init
loop-left-init g c =
    let grown = c.live.ensures.grown in
    let es = c.args.tree.now.entries in
    let deep = c.requires.depth in
    let top = climbed_is c.args.tree.now.next es grown.fall grown.rooted c.args.depth c.args.id c.requires.live (omega arith) in
    let far = top.depth in (
      omega arith,
      c.new-share.ensures ∙ sym (whole c.args.tree.now.next es grown.fall grown.rooted (share_of c.args.chances.now) _ top.live (omega arith)),
    )

pub passed_down-share-requires-clause-live : goal.passed_down-share-requires-clause-live
passed_down-share-requires-clause-live g c =
    let grown = c.live.ensures.grown in
    let within = c.loop-left.invariant.0 in
    let at = climbed_is c.args.tree.now.next c.args.tree.now.entries grown.fall grown.rooted (c.loop-left.left - c.min-count.result) c.args.id c.requires.live (omega arith) in
    subst (λ q. is_some (entry_at kin c.args.tree.now.entries q) ≡ true) (sym c.ancestor.ensures) at.live

pub passed_down-share-requires-clause-within : goal.passed_down-share-requires-clause-within
passed_down-share-requires-clause-within g c =
    let grown = c.live.ensures.grown in
    let within = c.loop-left.invariant.0 in
    let at = climbed_is c.args.tree.now.next c.args.tree.now.entries grown.fall grown.rooted (c.loop-left.left - c.min-count.result) c.args.id c.requires.live (omega arith) in
    let deep = at.depth in
    let least = c.min-count.ensures in
    let is = ap (depth_in c.args.tree.now.entries) c.ancestor.ensures in
    omega arith

pub passed_down-share-requires-clause-share : goal.passed_down-share-requires-clause-share
passed_down-share-requires-clause-share g c =
    let es = c.args.tree.now.entries in
    let least = c.min-count.ensures in
    let sum : c.loop-left.left - c.min-count.result + c.min-count.result ≡ c.loop-left.left = omega arith in
    c.loop-left.invariant.1
    ∙ ap (survival_in (share_of c.args.chances.now) es)
    (ap (λ n. climbed es n c.args.id) (sym sum) ∙ sym (climbed_far es c.min-count.result (c.loop-left.left - c.min-count.result) c.args.id) ∙ ap (climbed es c.min-count.result) (sym c.ancestor.ensures))
