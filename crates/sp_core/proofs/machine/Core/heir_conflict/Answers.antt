use Rattle.std.proofs.Common.{◌≡◌, ℕ, List, Some, is_some, sym, ap, subst, ◌∙◌}
use Rattle.sp_group.specs.Machine as machine
use Rattle.sp_tree.specs.Grown.{IsChild, LacksChild}
use Rattle.sp_core.specs.Finishing.{done_root, heir_conflict}
use Rattle.sp_core.specs.Holding.{holding}
use Rattle.sp_core.specs.Running.{Running}
use Rattle.sp_core.specs.Suppressing.{conflict_at}
use Rattle.sp_core.proofs.HeirConflict.{heir_in_conflict, no_conflict}
use Rattle.sp_core.proofs.Journal.{reached}
use Rattle.sp_core.proofs.Roots.{done_is}
use Rattle.sp_core.proofs.machine.Core.heir_conflict.Goals as goal

pub returns-in_err-child : goal.returns-in_err-child
returns-in_err-child c =
    let h = holding c.self.inside in
    let root = c.args.root in
    let done = subst (λ (x : Running). done_root (machine.root_in x.machine.versions) ≡ Some (root, c.requires.0)) (sym c.self.view_is) c.requires.1 in
    let d = done_is h.tree root c.requires.0 c.self.invariant.grown done in
    let none = subst (λ (l : List ℕ). LacksChild h.tree.entries root l) c.empty-label.ensures (c.child.ensures.none (ap is_some c.in_err-child.was)) in
    subst (λ (x : Running). c.from_residual.result ≡ heir_conflict x.plan x.machine (machine.root_in x.machine.versions)) c.self.view_is
    (c.from_residual.ensures ∙ no_conflict h c.self.invariant (reached c.every_schedule.ensures h c.self.invariant).kept root c.requires.0 d none)

pub returns : goal.returns
returns c =
    let h = holding c.self.inside in
    let root = c.args.root in
    let id = c.in_ok-child.child in
    let done = subst (λ (x : Running). done_root (machine.root_in x.machine.versions) ≡ Some (root, c.requires.0)) (sym c.self.view_is) c.requires.1 in
    let d = done_is h.tree root c.requires.0 c.self.invariant.grown done in
    let child = subst (λ (l : List ℕ). IsChild h.tree.entries root l id) c.empty-label.ensures c.in_ok-child.ensures.some in
    let told = subst (λ (x : Running). c.conflict_of.result ≡ conflict_at x.plan x.machine id) (sym c.self.view_is) c.conflict_of.ensures in
    subst (λ (x : Running). c.conflict_of.result ≡ heir_conflict x.plan x.machine (machine.root_in x.machine.versions)) c.self.view_is
    (told ∙ heir_in_conflict h c.self.invariant (reached c.every_schedule.ensures h c.self.invariant).kept root c.requires.0 d id child)
