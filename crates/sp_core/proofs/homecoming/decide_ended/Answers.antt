use Rattle.std.proofs.Common.{length, get_or, refl, sym, ap, ◌∙◌, arith}
use Rattle.sp_group.specs.declared.outcome.Outcome.{Outcome}
use Rattle.sp_tree.specs.Changes.{decided}
use Rattle.sp_tree.specs.Grown.{pruned}
use Rattle.sp_core.proofs.DecidedGroups.{all_decided, has_still, next_group, none_decided, one_decided, one_less, one_stays}
use Rattle.sp_core.proofs.homecoming.decide_ended.Goals as goal

pub loop-i-preserved-then-has_open : goal.loop-i-preserved-then-has_open
loop-i-preserved-then-has_open c = λ e live.
    let law = c.decisions_add_up.ensures in
    let old = c.args.tree.now in
    let runs = c.args.completed.now in
    let i = c.loop-i.i in
    let tree = c.loop-i.tree in
    let d = c.loop-i.invariant e live in
    let same = ap length (c.groups.ensures.groups ∙ sym c.groups-in-loop-i.ensures.groups) in
    let next = next_group law old c.args.owner runs c.requires e live i tree d c.groups-in-loop-i.result.now _ c.groups-in-loop-i.ensures.groups (omega arith) refl in
    let has = has_still law old c.args.owner runs c.requires e live i tree d _ c.has_open.result c.has_open.ensures in
    one_stays law old c.args.owner runs c.requires e live i tree d _ next.0 next.1 (sym has ∙ c.if-has_open.true)

pub loop-i-preserved : goal.loop-i-preserved
loop-i-preserved c = λ e live.
    let law = c.decisions_add_up.ensures in
    let old = c.args.tree.now in
    let runs = c.args.completed.now in
    let i = c.loop-i.i in
    let tree = c.loop-i.tree in
    let d = c.loop-i.invariant e live in
    let same = ap length (c.groups.ensures.groups ∙ sym c.groups-in-loop-i.ensures.groups) in
    let next = next_group law old c.args.owner runs c.requires e live i tree d c.groups-in-loop-i.result.now _ c.groups-in-loop-i.ensures.groups (omega arith) refl in
    let has = has_still law old c.args.owner runs c.requires e live i tree d _ c.has_open.result c.has_open.ensures in
    one_decided law old c.args.owner runs c.requires e live i tree d _ next.0 next.1 (sym has ∙ c.if-has_open.false) c.decide.new.self
    (c.decide.ensures.tree ∙ ap (λ (o : Outcome). pruned (decided c.args.owner (get_or c.groups-in-loop-i.result.now i 0) o) tree) c.outcome_of.ensures)

pub loop-i-smaller : goal.loop-i-smaller
loop-i-smaller c =
    let law = c.decisions_add_up.ensures in
    let old = c.args.tree.now in
    let runs = c.args.completed.now in
    let i = c.loop-i.i in
    let tree = c.loop-i.tree in
    let e = c.requires.entry in
    let live = c.requires.live in
    let d = c.loop-i.invariant e live in
    let same = ap length (c.groups.ensures.groups ∙ sym c.groups-in-loop-i.ensures.groups) in
    let next = next_group law old c.args.owner runs c.requires e live i tree d c.groups-in-loop-i.result.now _ c.groups-in-loop-i.ensures.groups (omega arith) refl in
    let has = has_still law old c.args.owner runs c.requires e live i tree d _ c.has_open.result c.has_open.ensures in
    let less = one_less law old c.args.owner runs c.requires e live i tree d _ next.0 next.1 (sym has ∙ c.if-has_open.false) c.decide.new.self
    (c.decide.ensures.tree ∙ ap (λ (o : Outcome). pruned (decided c.args.owner (get_or c.groups-in-loop-i.result.now i 0) o) tree) c.outcome_of.ensures) in
    let groups = ap length c.groups.ensures.groups in
    omega arith

pub returns : goal.returns
returns c = λ e live.
    all_decided c.decisions_add_up.ensures c.args.tree.now c.args.owner c.args.completed.now c.requires e live c.loop-i.i c.loop-i.tree (c.loop-i.invariant e live) c.groups.result.now c.groups.ensures.groups (omega arith)

pub loop-i-init : goal.loop-i-init
loop-i-init c = λ e live. none_decided c.decisions_add_up.ensures c.args.tree.now c.args.owner c.args.completed.now c.requires e live
