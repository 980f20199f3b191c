use Rattle.std.proofs.Common.{subst}
use Rattle.sp_core.specs.Running.{Running}
use Rattle.sp_core.specs.Showing.{AreUnread}
use Rattle.sp_core.proofs.Tickets.{all_unread}
use Rattle.sp_core.proofs.machine.Core.finished.Goals as goal

pub returns-clause-unread : goal.returns-clause-unread
returns-clause-unread c = subst (λ (r : Running). AreUnread r.machine.tickets) c.self.view_is (all_unread c.self.inside.tickets.items)
