use Rattle.std.proofs.Common.{refl, ap, ◌∙◌, arith}
use Rattle.sp_group.specs.Seen.{state_seen}
use Rattle.sp_core.specs.Holding.{holding}
use Rattle.sp_core.specs.Printing.{lent_seen}
use Rattle.sp_core.specs.Running.{Running}
use Rattle.sp_core.proofs.Printed.{state_is}
use Rattle.sp_core.proofs.machine.Core.state.Goals as goal

pub returns : goal.returns
returns c =
    let h = holding c.self.inside in
    state_is h c.self.invariant _ (omega arith) refl (c.count.ensures h.events h.ended c.self.invariant.windows) refl (omega arith) c.in_ok-copy.ensures
    c.in_ok-versions.ensures (c.in_ok-tickets.ensures ∙ ap lent_seen c.deref.ensures.value)
    ∙ ap (λ (r : Running). state_seen r.plan r.machine) c.self.view_is
