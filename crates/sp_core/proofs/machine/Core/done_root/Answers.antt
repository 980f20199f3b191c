use Rattle.std.proofs.Common.{◌≡◌, false, true, Some, None, sym, ap, subst, ◌∙◌}
use Rattle.std.specs.Option.{option_copied}
use Rattle.sp_group.specs.Machine as machine
use Rattle.sp_core.specs.Finishing.{done_root}
use Rattle.sp_core.specs.Holding.{holding}
use Rattle.sp_core.specs.Running.{Running}
use Rattle.sp_core.proofs.Popped.{root_live}
use Rattle.sp_core.proofs.Roots.{done_told}
use Rattle.sp_core.proofs.machine.Core.done_root.Goals as goal

pub returns-in_err-held : goal.returns-in_err-held
returns-in_err-held c =
    absurd (root_live c.self.inside.tree.entries c.in_ok-root.root (sym c.root.ensures.root ∙ c.in_ok-root.was) (sym c.get.ensures ∙ ap option_copied c.in_err-held.was))

pub returns-then-held : goal.returns-then-held
returns-then-held c =
    let h = holding c.self.inside in
    subst (λ (x : Running). Some (c.in_ok-root.root, c.in_ok-held.held.now.window) ≡ done_root (machine.root_in x.machine.versions)) c.self.view_is
    (done_told h.tree c.in_ok-root.root c.in_ok-held.held.now true c.self.invariant.grown (sym c.root.ensures.root ∙ c.in_ok-root.was)
    (sym (ap option_copied c.in_ok-held.was) ∙ c.get.ensures) c.if-held.true)

pub returns-else-held : goal.returns-else-held
returns-else-held c =
    let h = holding c.self.inside in
    subst (λ (x : Running). None ≡ done_root (machine.root_in x.machine.versions)) c.self.view_is
    (done_told h.tree c.in_ok-root.root c.in_ok-held.held.now false c.self.invariant.grown (sym c.root.ensures.root ∙ c.in_ok-root.was)
    (sym (ap option_copied c.in_ok-held.was) ∙ c.get.ensures) c.if-held.false)
