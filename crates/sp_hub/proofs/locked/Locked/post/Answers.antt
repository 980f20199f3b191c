use Rattle.std.proofs.Common.{rules}
use Rattle.sp_hub.proofs.Histories.{keeps-post}
use Rattle.sp_hub.proofs.locked.Locked.post.Goals as goal

pub invariant_of-self-2 : goal.invariant_of-self-2
invariant_of-self-2 g c =
    keeps-post _ c.self.inside.jobs.items _ c.args.job _ c.self.inside.history.items _ _ c.self.inside.book.total _ _ _ c.self.invariant
    (search rules) (search rules) c.ticket-ticket.ensures c.count.ensures.total (search rules)
