use Rattle.sp_hub.proofs.Histories.{keeps-take}
use Rattle.sp_hub.proofs.locked.Locked.take.Goals as goal

pub invariant_of-self : goal.invariant_of-self
invariant_of-self g c =
    keeps-take _ c.self.inside.jobs.items _ c.in-Some.job _ c.self.inside.history.items _ _ _ c.self.inside.book.total _ _ _ c.self.invariant
    c.in-Some.ensures.items c.push_reserved.ensures.items c.ticket-ticket.ensures c.count.ensures.total c.push_reserved.ensures.capacity
