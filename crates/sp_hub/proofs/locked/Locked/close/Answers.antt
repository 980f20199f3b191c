use Rattle.std.proofs.Common.{rules}
use Rattle.sp_hub.proofs.Histories.{keeps-close}
use Rattle.sp_hub.proofs.locked.Locked.close.Goals as goal

pub invariant_of-self : goal.invariant_of-self
invariant_of-self g c =
    keeps-close _ _ c.self.inside.closed c.self.inside.history.items _ _ _ _ c.self.invariant (search rules) c.push_reserved.ensures.items c.push_reserved.ensures.capacity
