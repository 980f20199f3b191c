use Rattle.std.proofs.Common.{◌≡◌, inr, Option, Some, None, refl, subst}
use Rattle.sp_chance.specs.Shares.{share_of}
use Rattle.sp_group.specs.declared.step.Step.{Step}
use Rattle.sp_group.specs.declared.step.Step.TheVariants as s
use Rattle.sp_core.specs.declared.fault.CoreFault.{CoreFault}
use Rattle.sp_core.specs.Faults.{IsFault}
use Rattle.sp_core.specs.Running.{Running, refused}
use Rattle.sp_core.specs.Showing.{IsTreeOf}
use Rattle.sp_splitter.specs.declared.breeding.Born.{Born}
use Rattle.sp_splitter.specs.Bearing.{IsFoundAmongAll}
use Rattle.sp_splitter.specs.Breeding.{NoneToBear}
use Rattle.sp_splitter.proofs.Spawnable.{child_passes, has_room}
use Rattle.sp_splitter.proofs.breeding.bear_best.Goals as goal

pub unreachable-requires : goal.unreachable-requires
unreachable-requires g c =
    let core = c.args.core.now in
    let tree = c.tree-tree.result.now in
    let x : Step = s.Spawn (Some c.in-Some.child.parent) c.in-Some.child.label in
    let is_tree : IsTreeOf core tree = subst (λ (z : Running). IsTreeOf z tree) c.core.ensures c.tree-tree.ensures in
    let room = has_room core tree is_tree c.live.result c.bound.result c.live.ensures.live c.bound.ensures c.if-live-bound.false c.live.ensures.grown.most in
    let found = subst (λ (o : Option Born). IsFoundAmongAll c.core-2.result.now tree (share_of c.args.chances.now) o) c.in-Some.is c.in_ok-child.ensures in
    let best = subst (λ (z : Running). IsFoundAmongAll z tree (share_of c.args.chances.now) (Some c.in-Some.child)) c.core-2.ensures found in
    let passes : refused core x ≡ None = child_passes core tree is_tree (share_of c.args.chances.now) c.in-Some.child.parent c.in-Some.child.label best.1.can best.1.open_runs room in
    let fault : refused core x ≡ Some c.in-Err-Refused.field-0-0 = subst (λ (f : CoreFault). IsFault core x f) c.in-Err-Refused.field-0-is c.in-Err-Refused.ensures.fault in
    cc

pub returns-in_default-clause-born : goal.returns-in_default-clause-born
returns-in_default-clause-born g c =
    let tree = c.tree-tree.result.now in
    let is_tree = subst (λ (z : Running). IsTreeOf z tree) c.core.ensures c.tree-tree.ensures in
    let none = subst (λ (o : Option Born). IsFoundAmongAll c.core-2.result.now tree (share_of c.args.chances.now) o) c.in_default.is c.in_ok-child.ensures in
    (refl, inr (tree, is_tree, subst (λ (z : Running). NoneToBear z tree (share_of c.args.chances.now)) c.core-2.ensures none))
